-- What was read where an enum is due.
use Rattle.std.proofs.Common.{◌≡◌, ◌<◌, ℕ, List, length, Option, Some, None, option_map, refl, sym, ap, subst, ◌∙◌, arith}
use Rattle.bser_format.specs.Content.{Content, byte_list}
use Rattle.bser_format.specs.Tree.{Tree}
use Rattle.bser_format.specs.Expected.{Due, Fills}
use Rattle.bser_format.specs.ReadsScalars.{utf8_of, reads_string}
use Rattle.bser_format.specs.declared.errors.Error.{Error}
use Rattle.bser_format.specs.declared.errors.Complaint.TheVariants.{UnknownVariant}
use Rattle.bser_format.specs.Named.{refuse, complain}
use Rattle.bser_format.specs.Clauses.{after_a_refusal}
use Rattle.bser_deserializer.specs.Dues.{IsValueDue}
use Rattle.bser_deserializer.specs.Fields.{HoldsField}
use Rattle.bser_deserializer.specs.Reading.{Answers, NamesBy, bare}
use Rattle.bser_deserializer.specs.State.{State, past}
use Rattle.bser_deserializer.specs.declared.field.Field.{Field}
use Rattle.bser_deserializer.specs.declared.field.Field.TheVariants.{Unknown}
use Rattle.bser_deserializer.proofs.Refusals.{names_by_untaken}
use Rattle.bser_deserializer.specs.View.{SeesTag}
use Rattle.bser_deserializer.proofs.Openings.{opened_pairs}
use Rattle.bser_deserializer.proofs.Tags.{peeked_took, complained_names}
use Rattle.bser_structs.specs.VariantNames.{place_due}
use Rattle.bser_structs.specs.ReadVariants.{reads_place, HoldsPlace, OpenVariant, OpensEntry}
use Rattle.bser_structs.proofs.Names.{name_first, place_reads, unknown_from}

-- ---- a name

text_told : (o : Option (List ℕ)) (c : Content) (s : List ℕ) → option_map byte_list o ≡ Some c → c ≡ byte_list s → o ≡ Some s
text_told None c s e h = absurd cc
text_told (Some v) c s e h = let same : v ≡ s = cc in ap Some same

-- a name that is none of these is refused
pub unknown_names : (vs : List (List ℕ)) (e : Error) (s m : State) (f : Field) → Answers reads_string (HoldsField vs) s m f → f ≡ Unknown → e ≡ after_a_refusal m.source.failed (complain UnknownVariant) → NamesBy bare (place_due s.opened vs s.due) e s.source
unknown_names vs e s m f a is reason =
    let text = text_told (utf8_of a.tree) a.content a.held.0 a.read a.held.1 in
    names_by_untaken bare (place_due s.opened vs s.due) (refuse {X = ℕ} (complain UnknownVariant)) e s.source m.source a.text
    (λ f x h. place_reads vs s.opened s.levels s.due a.tree a.held.0 a.text x a.filled text ∙ unknown_from 0 vs a.held.0 (sym a.held.2 ∙ is) x ∙ h) a.took
    (complained_names bare (refuse {X = ℕ} (complain UnknownVariant)) (complain UnknownVariant) e m.source reason (λ x. refl))

-- ---- after a look at a tag

some_text : (vs : List (List ℕ)) (n : ℕ) (d : Due) (u : Tree) (c : Content) (text : List ℕ) → IsValueDue d → Fills n d u text → reads_place vs u ≡ Some c → 0 < length text
some_text vs n d u c text v f e = let p = name_first vs n d u c text v f e in omega (arith, ap length p.2)

-- a name alone
pub place_looked : (vs : List (List ℕ)) (s m z : State) (t p : ℕ) → SeesTag s m t → Answers (reads_place vs) HoldsPlace m z p → Answers (reads_place vs) HoldsPlace s z p
place_looked vs s m z t p sees a =
    let filled : Fills s.levels s.due a.tree a.text = subst (λ (w : State). Fills w.levels w.due a.tree a.text) sees.state a.filled in
    record {
      tree = a.tree;
      content = a.content;
      text = a.text;
      filled = filled;
      read = a.read;
      held = a.held;
      took = peeked_took s.source m.source z.source t a.text sees.peeks a.took (some_text vs s.levels s.due a.tree a.content a.text sees.due filled a.read);
      state = a.state ∙ ap (λ (w : State). past w z.source) sees.state;
    }

-- the key of the only entry
pub entry_looked : (vs : List (List ℕ)) (s m : State) (v : OpenVariant) (t place : ℕ) → SeesTag s m t → OpensEntry vs m v place → OpensEntry vs s v place
entry_looked vs s m v t place sees h = record {
  inside = h.inside;
  opens = opened_pairs s m t h.inside sees h.opens;
  single = h.single;
  key = h.key;
  payload = h.payload;
  levels = h.levels ∙ ap (λ (w : State). w.levels) sees.state;
  opened = h.opened ∙ ap (λ (w : State). w.opened) sees.state;
}
