-- What callers see of a deserializer over any source.
use Rattle.std.specs.Prelude.{◌≡◌, ℕ, List, ◌∷◌, map, drop, Bool, true, false, ◌||◌, ◌==◌, Option, Some, None}
use Rattle.bser_format.specs.declared.errors.Error.{Error}
use Rattle.bser_source.specs.Window.{Peeks}
use Rattle.bser_format.specs.Expected.{node_due, field_due, name_due}
use Rattle.bser_format.specs.Expected as expected
use Rattle.bser_format.specs.Named.{Reader, ◌>>=◌, next}
use Rattle.bser_format.specs.DueReaders.{asked, nothing_at}
use Rattle.bser_format.specs.Asks.{done}
use Rattle.bser_format.specs.Clauses.{after_a_refusal, still_open}
use Rattle.bser_bunser.specs.Refusal.{end_refusal}
use Rattle.bser_deserializer.specs.Access.{OpenItems, OpenPairs}
use Rattle.bser_deserializer.specs.Dues.{IsValueDue, due_of}
use Rattle.bser_deserializer.specs.Parts.{wanted_items, wanted_pairs}
use Rattle.bser_deserializer.specs.State.{State, with_source}
use Rattle.bser_deserializer.specs.declared.due.Due.{Due}
use Rattle.bser_deserializer.specs.declared.node.Node.{Node}
use Rattle.bser_deserializer.specs.declared.node.Node.TheVariants as kinds
use Rattle.bser_deserializer.specs.declared.frames.SeqHead.{SeqHead}
use Rattle.bser_deserializer.specs.declared.frames.MapHead.{MapHead}
use Rattle.bser_deserializer.specs.declared.deserializer.Deserializer.TheInside.{Inside}
use Rattle.bser_deserializer.specs.Seen.{Seen}

-- what callers see of a deserializer, by the bytes of a kept key
abbrev pub seen_of : {R L K : Type 0} → (K → List ℕ) → Inside R L K → Seen
seen_of kept d =
    let ks = map kept d.keys.items in
    record {
      state = record {
        source = d.bunser.window;
        due = due_of ks d.place d.due;
        levels = d.levels;
        keys = ks;
        outer = map (λ v. map kept v.items) d.outer.items;
        opened = d.opened;
        capabilities = d.info.bser_capabilities;
        start = d.info.start;
        len = d.info.len;
      };
      refusal = d.bunser.refusal;
      note = d.note;
    }

-- why a deserializer is not at the end of its message
abbrev pub not_at_end : State → Error
not_at_end s =
    after_a_refusal s.source.failed (still_open s.due s.opened (end_refusal s.start s.len s.source.count))

-- this is expected, as the code has it
pub record IsDue (d : Due) (s : State) : Type 0 where
  pub place : ℕ
  pub due : s.due ≡ due_of s.keys place d

-- the tag of the value that is expected; where none is, nothing is of the kind that is asked for
abbrev pub value_here : ℕ → expected.Due → Reader Unit
value_here opened node_due = next >>= done
value_here opened field_due = next >>= done
value_here opened d = asked nothing_at opened d

-- the tag of null, or the skip of the field that is expected
abbrev pub is_null_at : expected.Due → ℕ → Bool
is_null_at field_due t = (t == 0x0a) || (t == 0x0c)
is_null_at _ t = t == 0x0a

-- a kind of values, and another than that of null
abbrev pub is_other_kind : Option Node → Bool
is_other_kind None = false
is_other_kind (Some kinds.Null) = false
is_other_kind (Some _) = true

-- a value is expected whose tag is this one, and nothing is taken
pub record SeesTag (old new : State) (t : ℕ) : Type 0 where
  pub due : IsValueDue old.due
  pub peeks : Peeks old.source new.source t
  pub state : new ≡ with_source old new.source

-- a value is expected whose tag is this one, and it is buffered
pub record IsBefore (t : ℕ) (s : State) : Type 0 where
  pub due : IsValueDue s.due
  pub next : s.source.buffered ≡ t ∷ drop 1 s.source.buffered
  pub working : s.source.failed ≡ false

-- the key of a row's field is expected, and no call failed
pub record IsNameDue (k : List ℕ) (s : State) : Type 0 where
  pub due : s.due ≡ name_due k
  pub working : s.source.failed ≡ false

-- the key of no row's field is expected, where no call failed
abbrev pub NoNameDue : State → Type 0
NoNameDue s = s.source.failed ≡ false → (k : List ℕ) → s.due ≡ name_due k → ⊥

-- the array or template that this head opened
abbrev pub items_head : SeqHead → State → OpenItems
items_head h s =
    record { state = s; wanted = wanted_items s.keys h.rows h.remaining; levels = h.levels; opened = h.opened }

-- the object or row that this head opened
abbrev pub pairs_head : MapHead → State → OpenPairs
pairs_head h s =
    record { state = s; wanted = wanted_pairs s.keys h.row h.at; pending = false; levels = h.levels; opened = h.opened }
