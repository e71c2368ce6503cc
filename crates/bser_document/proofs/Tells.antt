-- What a document tells again.
use Rattle.std.proofs.Common.{◌≡◌, ◌<◌, ◌≤◌, ◌+◌, ℕ, zero, suc, List, [], ◌∷◌, ◌++◌, length, map, take, get_or, Option, Some, None, option_map, sym, ap, subst, ◌∙◌, arith}
use Rattle.std.specs.List.{AllByRecursion}
use Rattle.std.proofs.lemmas.List.{map_push, take_more}
use Rattle.std.proofs.lemmas.Option.{same_Some}
use Rattle.bser_format.specs.Tree.{Tree}
use Rattle.bser_format.specs.Content.{Content, value}
use Rattle.bser_format.specs.ValueTree.{IsValueTree}
use Rattle.bser_events.specs.Events.{Event, events, TakesAll, none as no_more}
use Rattle.bser_events.specs.Places.{place_at}
use Rattle.bser_events.specs.declared.event.Place.{Place}
use Rattle.bser_events.proofs.Takings.{takes_one, takes_then}
use Rattle.bser_value.specs.declared.value.Value.{Value}
use Rattle.bser_value.specs.declared.builder.ValueBuilder.{ValueBuilder}
use Rattle.bser_value.specs.Made.{unread, read_as}
use Rattle.bser_value.specs.Shows.{Shows, Takes}
use Rattle.bser_value.specs.ValueView.{tree_of, HoldsValue}
use Rattle.bser_value.proofs.Made.{made}
use Rattle.bser_value.proofs.Steps.{all_taken}
use Rattle.bser_document.specs.declared.document.Document.{Document}
use Rattle.bser_document.specs.declared.document.DocumentNode.{DocumentNode}
use Rattle.bser_document.specs.DocumentView.{Within, event_of, HoldsDocument}
use Rattle.bser_document.specs.Tells.{Told, TakesNowhere, is_text_value}

-- the first k nodes were told, if each text is UTF-8
abbrev pub FrontTold : {B : Type 0} → (B → Event → B → Type 0) → Document → ℕ → B → B → Type 0
FrontTold takes d k before now = AllByRecursion (Within d.strings.items) d.nodes.items → TakesAll takes before (map (event_of d.strings.items) (take k d.nodes.items)) now

pub none_told : {B : Type 0} (takes : B → Event → B → Type 0) (d : Document) (before : B) → FrontTold takes d 0 before before
none_told takes d before h = no_more before

within_there : (s : List ℕ) (ns : List DocumentNode) (k : ℕ) (z : DocumentNode) → AllByRecursion (Within s) ns → k < length ns → Within s (get_or ns k z)
within_there s [] k z h less = absurd (omega (arith, less))
within_there s (n ∷ ns) zero z h less = h.0
within_there s (n ∷ ns) (suc k) z h less = within_there s ns k z h.1 (omega (arith, less))

pub one_told : {B : Type 0} (takes : B → Event → B → Type 0) (d : Document) (ms : List DocumentNode) (k : ℕ) (z : DocumentNode) (before mid after : B) → ms ≡ d.nodes.items → k < length ms
    → (Within d.strings.items (get_or ms k z) → takes mid (event_of d.strings.items (get_or ms k z)) after) → FrontTold takes d k before mid → FrontTold takes d (k + 1) before after
one_told takes d ms k z before mid after same less' taken' front h =
    let s : List ℕ = d.strings.items in
    let ns : List DocumentNode = d.nodes.items in
    let n : DocumentNode = get_or ns k z in
    let less : k < length ns = subst (λ l. k < length l) same less' in
    let taken : Within s n → takes mid (event_of s n) after = subst (λ l. Within s (get_or l k z) → takes mid (event_of s (get_or l k z)) after) same taken' in
    subst (λ l. TakesAll takes before l after) (sym (ap (map (event_of s)) (take_more ns k z less) ∙ map_push (event_of s) (take k ns) n))
    (takes_then takes before mid after (map (event_of s) (take k ns)) (event_of s n ∷ []) (front h) (takes_one takes mid after (event_of s n) (taken (within_there s ns k z h less))))

-- a node's event at no place
pub told_nowhere : {B : Type 0} (takes : B → Event → Place → B → Type 0) (told kept : Event) (p : Place) (before after : B) → p ≡ place_at 0 0 (is_text_value kept) → told ≡ kept → takes before told p after → TakesNowhere takes before kept after
told_nowhere takes told kept p before after place same took =
    subst (λ e. takes before e (place_at 0 0 (is_text_value kept)) after) same (subst (λ q. takes before told q after) place took)

-- the value is what the document holds
pub value_made : (d : Document) (before after : ValueBuilder) (r : Option Value) → Shows before unread → Told (λ x e p y. Takes x e y) d before after → ((t : Tree) → Shows after (read_as t) → option_map tree_of r ≡ Some t) → (c : Content) (h : HoldsDocument d c) → option_map tree_of r ≡ Some h.read
value_made d before after r shows tells whole c h =
    whole h.read (all_taken before (events h.tree) after (tells h.tree h.views) unread (read_as h.read) shows (made h.tree h.rows h.read unread h.normal))

pub value_held : (d : Document) (before after : ValueBuilder) (r : Option Value) (v : Value) → r ≡ Some v → Shows before unread → Told (λ x e p y. Takes x e y) d before after → ((t : Tree) → Shows after (read_as t) → option_map tree_of r ≡ Some t) → (c : Content) → HoldsDocument d c → HoldsValue v c
value_held d before after r v is shows tells whole c h =
    let same : tree_of v ≡ h.read = same_Some (tree_of v) h.read (ap (option_map tree_of) (sym is) ∙ value_made d before after r shows tells whole c h) in
    record { same = h.same ∙ ap value (sym same); tree = subst IsValueTree (sym same) h.values }

pub value_some : (d : Document) (before after : ValueBuilder) (r : Option Value) → r ≡ None → Shows before unread → Told (λ x e p y. Takes x e y) d before after → ((t : Tree) → Shows after (read_as t) → option_map tree_of r ≡ Some t) → (c : Content) → HoldsDocument d c → ⊥
value_some d before after r is shows tells whole c h =
    let e : option_map tree_of None ≡ Some h.read = ap (option_map tree_of) (sym is) ∙ value_made d before after r shows tells whole c h in
    cc
