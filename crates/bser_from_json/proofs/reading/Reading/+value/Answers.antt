-- What each token makes.
use Rattle.std.proofs.Common.{◌≡◌, ◌+◌, ◌-◌, [], ◌∷◌, ◌++◌, length, rules, refl, subst, ◌∙◌, arith, nat_cmp}
use Rattle.std.proofs.lemmas.Result.{err_from_is_err_and}
use Rattle.json.specs.declared.token.Token.TheVariants as kinds
use Rattle.std.specs.BTreeMap.{insert_entry}
use Rattle.std.specs.Cmp.Lexicographic.{slice_cmp}
use Rattle.bser_format.specs.Tree.{array, items_of, object, entries_of}
use Rattle.bser_from_json.specs.Bodies.{EntriesStand}
use Rattle.bser_from_json.specs.Left.{due_to}
use Rattle.bser_from_json.specs.Made.{in_array, in_object, a_first_member, a_member, a_value, an_item, most_levels}
use Rattle.bser_from_json.proofs.Entries.{stand_named}
use Rattle.bser_from_json.proofs.Outcomes.{array_begun, array_ended, comes_from, first_marks, first_taken, first_too_deep, item_taken, lacking, member_named, member_refused, no_room, not_opening, object_ended, refused_is, refused_same, room, taken}
use Rattle.bser_from_json.proofs.Parts.{entries_follow, entry_put, item_put, items_follow, items_within, no_entries_put}
use Rattle.bser_from_json.proofs.reading.Reading.+value.Goals as goal

pub value-scalar-requires : goal.value-scalar-requires
value-scalar-requires t c = not_opening c.args.first c.in_default.not-BeginArray c.in_default.not-BeginObject

pub value-returns-in_err-scalar-in_default : goal.value-returns-in_err-scalar-in_default
value-returns-in_err-scalar-in_default t c =
    let p = err_from_is_err_and c.from_residual.result c.from_residual.ensures.1 in
    record { comes = rw p.1 (λ os h. refused_is _ p.0 c.in_err-scalar-in_default.field-0.0 p.2 (c.in_err-scalar-in_default.ensures os)); fewer = search rules }

pub array-returns-in_err-token-clause-comes : goal.array-returns-in_err-token-clause-comes
array-returns-in_err-token-clause-comes t c =
    let s = c.args.self.now.strings in
    let parts = c.loop-items.invariant.0 in
    let p = err_from_is_err_and c.from_residual-in_err-token.result c.from_residual-in_err-token.ensures.1 in
    let e = c.in_err-token.field-0.0 in
    rw p.1 (λ os h. refused_is _ p.0 e p.2
    (refused_same _ _ e (array_begun s c.args.tokens.now os (room os c.args.levels h c.if-levels-eq0.false) ∙ parts.2 os h)
    (lacking s (an_item parts.0 os) c.loop-items.tokens c.next.new.self e (refl, refl) c.in_err-token.ensures.taken)))

pub array-returns-in-EndArray-clause-comes : goal.array-returns-in-EndArray-clause-comes
array-returns-in-EndArray-clause-comes t c =
    let s = c.args.self.now.strings in
    let parts = c.loop-items.invariant.0 in
    let all = c.in_ok-with_array in
    let is : c.in_ok-token.token ≡ kinds.EndArray = search (rules, c.in-EndArray.is) in (
      array (items_of parts.0),
      items_follow c.args.bytes.items all.field-0.items c.loop-items.items.items c.loop-items.count parts.0 (all.ensures ∙ search rules) parts.1,
      λ os h. array_begun s c.args.tokens.now os (room os c.args.levels h c.if-levels-eq0.false) ∙ parts.2 os h
          ∙ array_ended s parts.0 os c.loop-items.tokens c.next.new.self c.in_ok-token.token c.in_ok-token.ensures.taken is,
    )

pub array-returns-in_err-items-2-clause-comes : goal.array-returns-in_err-items-2-clause-comes
array-returns-in_err-items-2-clause-comes t c =
    let s = c.args.self.now.strings in
    let parts = c.loop-items.invariant.0 in
    let us = parts.0 in
    let p = err_from_is_err_and c.from_residual-in_err-items-2.result c.from_residual-in_err-items-2.ensures.1 in
    let e = c.in_err-items-2.field-0.0 in
    rw p.1 (λ os h. refused_is _ p.0 e p.2
    (refused_same _ _ e (array_begun s c.args.tokens.now os (room os c.args.levels h c.if-levels-eq0.false) ∙ parts.2 os h
    ∙ item_taken s us os c.loop-items.tokens c.next.new.self c.in_ok-token.token c.in_ok-token.ensures.taken c.in_default.not-EndArray)
    (c.in_err-items-2.ensures.comes (in_array us ∷ os) (omega (arith, h, c.if-levels-eq0.false)))))

pub array-overflow_add-count : goal.array-overflow_add-count
array-overflow_add-count t c =
    let v = c.loop-items.items in
    omega (arith, items_within v.items c.loop-items.count c.loop-items.invariant.0.0 c.loop-items.invariant.0.1, v.ok.0, v.ok.1, v.small)

pub array-loop-items-preserved : goal.array-loop-items-preserved
array-loop-items-preserved t c = (
  let s = c.args.self.now.strings in
      let parts = c.loop-items.invariant.0 in
      let us = parts.0 in
      let put = c.in_ok-items-2.ensures.comes in (
        us ++ put.0 ∷ [],
        item_put c.loop-items.items.items c.in_ok-items-2.items.items c.loop-items.count us put.0 put.1 parts.1,
        λ os h. parts.2 os h
            ∙ item_taken s us os c.loop-items.tokens c.next.new.self c.in_ok-token.token c.in_ok-token.ensures.taken c.in_default.not-EndArray
            ∙ put.2 (in_array us ∷ os) (omega (arith, h, c.if-levels-eq0.false)),
      ),
  search rules,
)

pub object-returns-in_err-first-clause-comes : goal.object-returns-in_err-first-clause-comes
object-returns-in_err-first-clause-comes t c =
    let p = err_from_is_err_and c.from_residual.result c.from_residual.ensures.1 in
    let e = c.in_err-first.field-0.0 in
    rw p.1 (λ os h. refused_is _ p.0 e p.2 (lacking c.args.self.now.strings (a_first_member os) c.args.tokens.now c.next.new.self e (refl, refl) c.in_err-first.ensures.taken))

pub object-returns-in-Some-clause-comes : goal.object-returns-in-Some-clause-comes
object-returns-in-Some-clause-comes t c =
    comes_from _ _ _ _ c.args.self.now.strings c.marked.new.tokens c.args.bytes.items c.marked.result (λ os h. tt)
    (λ os h. first_marks c.args.self.now.strings os c.args.tokens.now c.next.new.self c.in_ok-first.first c.in-Some.mark c.in_ok-first.ensures.taken c.in-Some.ensures) c.marked.ensures.comes

pub object-returns-then-levels-eq0-clause-comes : goal.object-returns-then-levels-eq0-clause-comes
object-returns-then-levels-eq0-clause-comes t c os h =
    first_too_deep c.args.self.now.strings os c.args.tokens.now c.next.new.self c.in_ok-first.first c.taken-begun.result c.in_ok-first.ensures.taken c.in_default.ensures (no_room os (omega (arith, h, c.if-levels-eq0.true))) c.taken-begun.ensures

pub object-returns-clause-comes : goal.object-returns-clause-comes
object-returns-clause-comes t c =
    comes_from _ _ _ _ c.args.self.now.strings c.members.new.tokens c.args.bytes.items c.members.result
    (λ os h. let levels : length os + (c.args.levels - 1 + 1) ≡ most_levels = omega (arith, h, c.if-levels-eq0.false) in omega (arith, levels))
    (λ os h. first_taken c.args.self.now.strings os c.args.tokens.now c.next.new.self c.in_ok-first.first c.in_ok-first.ensures.taken c.in_default.ensures (room os c.args.levels h c.if-levels-eq0.false)) c.members.ensures.comes

pub members-returns-in-EndObject-clause-comes : goal.members-returns-in-EndObject-clause-comes
members-returns-in-EndObject-clause-comes t c =
    let s = c.args.self.now.strings in
    let parts = c.loop-next.invariant.0 in
    let es = parts.0 in
    let ps = c.loop-next.entries.entries in
    let all = c.in_ok-with_object-in-EndObject in
    let there : c.loop-next.parts.items ≡ c.deref.result.now = search rules in (
      object (entries_of es),
      entries_follow c.args.bytes.items all.field-0.items c.loop-next.parts.items ps es (all.ensures es (subst (λ bytes. EntriesStand bytes ps es) there parts.1.stand)) parts.1,
      λ os h. parts.2 os h ∙ object_ended s c.loop-next.tokens es os c.loop-next.next c.in-EndObject.is,
    )

pub members-loop-next-init : goal.members-loop-next-init
members-loop-next-init t c = (([], no_entries_put c.in_ok-parts.parts.items c.new-entries.result.entries (search rules), λ os h. refl), omega arith)

pub members-returns-in-Err-clause-comes : goal.members-returns-in-Err-clause-comes
members-returns-in-Err-clause-comes t c os h =
    let s = c.args.self.now.strings in
    let parts = c.loop-next.invariant.0 in
    let es = parts.0 in
    refused_same _ _ _ (parts.2 os h)
    (member_refused s c.loop-next.tokens es os c.loop-next.next c.in-Key.key c.in-Err.fault _ c.in-Key.is (c.in-Err.ensures es (stand_named _ _ es parts.1.stand)) c.refuse-in-Err.ensures)

pub members-returns-in_err-token-clause-comes : goal.members-returns-in_err-token-clause-comes
members-returns-in_err-token-clause-comes t c =
    let s = c.args.self.now.strings in
    let parts = c.loop-next.invariant.0 in
    let es = parts.0 in
    let name = c.in-Ok.name.now in
    let p = err_from_is_err_and c.from_residual-in_err-token.result c.from_residual-in_err-token.ensures.1 in
    let e = c.in_err-token.field-0.0 in
    let named = c.in-Ok.ensures es (stand_named _ _ es parts.1.stand) in
    rw p.1 (λ os h. refused_is _ p.0 e p.2
    (refused_same _ _ e (parts.2 os h ∙ member_named s c.loop-next.tokens es os c.loop-next.next c.in-Key.key name c.in-Key.is named)
    (lacking s (a_value (in_object es name ∷ os)) c.loop-next.tokens c.next.new.self e (refl, refl) c.in_err-token.ensures.taken)))

pub members-returns-in_err-parts-3-clause-comes : goal.members-returns-in_err-parts-3-clause-comes
members-returns-in_err-parts-3-clause-comes t c =
    let s = c.args.self.now.strings in
    let parts = c.loop-next.invariant.0 in
    let es = parts.0 in
    let name = c.in-Ok.name.now in
    let p = err_from_is_err_and c.from_residual-in_err-parts-3.result c.from_residual-in_err-parts-3.ensures.1 in
    let e = c.in_err-parts-3.field-0.0 in
    let named = c.in-Ok.ensures es (stand_named _ _ es parts.1.stand) in
    rw p.1 (λ os h. refused_is _ p.0 e p.2
    (refused_same _ _ e (parts.2 os h ∙ member_named s c.loop-next.tokens es os c.loop-next.next c.in-Key.key name c.in-Key.is named
    ∙ taken s (a_value (in_object es name ∷ os)) c.loop-next.tokens c.next.new.self c.in_ok-token.token c.in_ok-token.ensures.taken)
    (c.in_err-parts-3.ensures.comes (in_object es name ∷ os) (omega (arith, h)))))

pub members-returns-in_err-next-clause-comes : goal.members-returns-in_err-next-clause-comes
members-returns-in_err-next-clause-comes t c =
    let s = c.args.self.now.strings in
    let parts = c.loop-next.invariant.0 in
    let es = parts.0 in
    let name = c.in-Ok.name.now in
    let p = err_from_is_err_and c.from_residual-in_err-next.result c.from_residual-in_err-next.ensures.1 in
    let e = c.in_err-next.field-0.0 in
    let named = c.in-Ok.ensures es (stand_named _ _ es parts.1.stand) in
    let put = c.in_ok-parts-3.ensures.comes in
    let more = insert_entry (slice_cmp nat_cmp) es name put.0 in
    rw p.1 (λ os h. refused_is _ p.0 e p.2
    (refused_same _ (due_to s c.value.new.tokens (a_member more os)) e (parts.2 os h ∙ member_named s c.loop-next.tokens es os c.loop-next.next c.in-Key.key name c.in-Key.is named
    ∙ taken s (a_value (in_object es name ∷ os)) c.loop-next.tokens c.next.new.self c.in_ok-token.token c.in_ok-token.ensures.taken ∙ put.2 (in_object es name ∷ os) (omega (arith, h)))
    (lacking s (a_member more os) c.value.new.tokens c.next-in-loop-next.new.self e (refl, refl) c.in_err-next.ensures.taken)))

pub members-loop-next-preserved : goal.members-loop-next-preserved
members-loop-next-preserved t c = (
  let s = c.args.self.now.strings in
      let parts = c.loop-next.invariant.0 in
      let es = parts.0 in
      let k = c.in-Ok.name in
      let named = c.in-Ok.ensures es (stand_named _ _ es parts.1.stand) in
      let put = c.in_ok-parts-3.ensures.comes in
      let more = insert_entry (slice_cmp nat_cmp) es k.now put.0 in (
        more,
        entry_put c.loop-next.parts.items c.in_ok-parts-2.parts.items c.in_ok-parts-3.parts.items c.loop-next.entries.entries c.insert.new.self.entries es k (record { start = c.len-start.result; end = c.len-end.result }) put.0 c.in_ok-parts-2.ensures.put c.in_ok-parts-2.ensures.utf8 put.1 (search rules) (search rules) c.in_ok-insert.ensures.entries parts.1,
        λ os h. parts.2 os h ∙ member_named s c.loop-next.tokens es os c.loop-next.next c.in-Key.key k.now c.in-Key.is named
            ∙ taken s (a_value (in_object es k.now ∷ os)) c.loop-next.tokens c.next.new.self c.in_ok-token.token c.in_ok-token.ensures.taken ∙ put.2 (in_object es k.now ∷ os) (omega (arith, h))
            ∙ taken s (a_member more os) c.value.new.tokens c.next-in-loop-next.new.self c.in_ok-next.next c.in_ok-next.ensures.taken,
      ),
  search rules,
)
