-- A reading that is under way: what was taken and told, and where that leads.
use Rattle.std.proofs.Common.{◌≡◌, ℕ, ◌+◌, ◌<◌, false, List, [], ◌∷◌, ◌++◌, append_assoc, append-nil, refl, sym, ap, subst, ◌∙◌, arith, inl, inr}
use Rattle.std.proofs.KnownBytes.{Consumes-nil}
use Rattle.std.specs.Prelude.{◌⊎◌, Option, Some, None}
use Rattle.bser_format.specs.Tree.{Tree}
use Rattle.bser_format.specs.declared.errors.Error.{Error}
use Rattle.bser_format.specs.declared.errors.Kind.TheVariants.{MapKey}
use Rattle.bser_format.specs.Named.{Reader, refuses, and_then, ◌>>=◌, text_of, field_of, with_text_keys}
use Rattle.bser_format.proofs.Steps.{Continues}
use Rattle.bser_source.specs.Window.{Window, Within, Took}
use Rattle.bser_source.proofs.Windows.{took_then}
use Rattle.bser_bunser.specs.Refusal.{Fails}
use Rattle.bser_bunser.specs.Names.{Names, RefusedAs}
use Rattle.bser_bunser.specs.Tagged.{TookToken}
use Rattle.bser_bunser.specs.declared.prefix.Token.{Token}
use Rattle.bser_bunser.specs.declared.prefix.Token.TheVariants as tokens
use Rattle.bser_bunser.proofs.Names.{blames_more, blames_untaken}
use Rattle.bser_bunser.proofs.Refusals.{fails_untaken}
use Rattle.bser_events.specs.Events.{Event, TakesAll, none, key, skip, close, events, part_events}
use Rattle.bser_events.specs.Frames.{Left, parts_of, Fits, left_events, Takes, IsDone}
use Rattle.bser_events.specs.Found.{Found, Opened, FoundOrOpened, KeyFound, Refuses, token_at, value_rest, IsContainer}
use Rattle.bser_events.specs.declared.frame.Frame.{Frame}
use Rattle.bser_events.specs.declared.frame.Remaining.{Remaining}
use Rattle.bser_events.specs.declared.frame.Part.{Part}
use Rattle.bser_events.specs.declared.frame.Part.TheVariants.{Item, Entry, Field}
use Rattle.bser_events.proofs.Takings.{takes_one, takes_then}
use Rattle.bser_events.proofs.Leads.{map_then, Leads, Awaits, AwaitsPart, AwaitsDue, frame_of, leads_due, leads_closed, leads_ended}
use Rattle.bser_events.proofs.Begins.{value_begins, value_refused, field_begins, field_refused, skip_there}

-- of `whole` some was taken and told, and the rest is what Next says
pub record Midway {Y B : Type 0} (takes : B → Event → B → Type 0) (whole : Reader Y) (Next : Reader Y → List Event → Type 0) (a b : Window) (before after : B) : Type 0 where
  pub text : List ℕ
  pub so_far : List Event
  pub now : Reader Y
  pub took : Took a b text
  pub continues : Continues whole now text
  pub told : TakesAll takes before so_far after
  pub next : Next now so_far

-- ---- nothing was taken

pub took_none : (a : Window) → a.failed ≡ false → Took a a []
took_none a works = record {
  more = [];
  bytes = append-nil a.buffered;
  device = Consumes-nil a.beyond;
  octets = tt;
  within = λ x h. subst (λ k. Within k a) (let e : x + 0 ≡ x = omega arith in e) h;
  count = omega arith;
  limit = refl;
  lends = refl;
  working = works;
  failed = works;
  failures = refl;
  through = refl;
}

pub midway_begins : {Y B : Type 0} (takes : B → Event → B → Type 0) (whole : Reader Y) (Next : Reader Y → List Event → Type 0) (a : Window) (before : B)
    → a.failed ≡ false → Next whole [] → Midway takes whole Next a a before before
midway_begins takes whole Next a before works next =
    record { text = []; so_far = []; now = whole; took = took_none a works; continues = λ x. refl; told = none before; next = next }

-- the same, by what the last call says of the window
pub midway_at : {Y B : Type 0} (takes : B → Event → B → Type 0) (whole : Reader Y) (Next : Reader Y → List Event → Type 0) (a b c : Window) (before after : B)
    → c ≡ b → Midway takes whole Next a b before after → Midway takes whole Next a c before after
midway_at takes whole Next a b c before after same m = subst (λ s. Midway takes whole Next a s before after) (sym same) m

-- ---- steps

-- what is next is told, or is seen otherwise
pub midway_seen : {Y B : Type 0} (takes : B → Event → B → Type 0) (whole : Reader Y) (Next Then : Reader Y → List Event → Type 0) (a b : Window) (before after : B)
    → ((now : Reader Y) (es : List Event) → Next now es → Then now es)
    → Midway takes whole Next a b before after → Midway takes whole Then a b before after
midway_seen takes whole Next Then a b before after f m =
    record { text = m.text; so_far = m.so_far; now = m.now; took = m.took; continues = m.continues; told = m.told; next = f m.now m.so_far m.next }

-- what was due was read and told
pub midway_found : {X Y B : Type 0} (takes : B → Event → B → Type 0) (whole : Reader Y) (r : Reader X) (told_of : X → List Event) (Next : Reader Y → List Event → Type 0)
    (a b c : Window) (before mid after : B)
    → Midway takes whole (Awaits r told_of Next) a b before mid → Found takes r told_of b c mid after → Midway takes whole Next a c before after
midway_found takes whole r told_of Next a b c before mid after m found =
    let k = m.next.0 in
    record {
      text = m.text ++ found.text;
      so_far = m.so_far ++ told_of found.value;
      now = k found.value;
      took = took_then a b c m.text found.text m.took found.took;
      continues = λ x. ap whole (append_assoc m.text found.text x) ∙ m.continues (found.text ++ x) ∙ m.next.1 (found.text ++ x) ∙ ap (and_then k) (found.passes x);
      told = takes_then takes before mid after m.so_far (told_of found.value) m.told found.told;
      next = m.next.2 found.value;
    }

-- the next part of the innermost container is due
pub midway_due : {Y B : Type 0} (takes : B → Event → B → Type 0) (whole : Reader Y) (ev : Y → List Event) (due : Part) (n : ℕ) (p q : Remaining) (fs : List Frame)
    (a b : Window) (before after : B)
    → Takes due p q → Midway takes whole (Leads ev (frame_of n p ∷ fs)) a b before after
    → Midway takes whole (AwaitsDue due n (Leads ev (frame_of n q ∷ fs))) a b before after
midway_due takes whole ev due n p q fs a b before after counted m =
    midway_seen takes whole _ _ a b before after (λ now es h. leads_due ev due n p q fs now es counted h) m

-- the key of an entry was read
pub midway_key : {Y B : Type 0} (takes : B → Event → B → Type 0) (whole : Reader Y) (due : Part) (n : ℕ) (Next : Reader Y → List Event → Type 0)
    (a b c : Window) (before mid after : B)
    → KeyFound takes due b c mid after → Midway takes whole (AwaitsDue due n Next) a b before mid → Midway takes whole (AwaitsPart due n Next) a c before after
midway_key takes whole Entry n Next a b c before mid after found m =
    midway_found takes whole (text_of MapKey) (λ s. key s ∷ []) (Awaits (with_text_keys n) events Next) a b c before mid after m found
midway_key takes whole Item n Next a b c before mid after same m =
    midway_at takes whole (Awaits (with_text_keys n) events Next) a b c before after same.0 (subst (λ z. Midway takes whole (Awaits (with_text_keys n) events Next) a b before z) (sym same.1) m)
midway_key takes whole Field n Next a b c before mid after same m =
    midway_at takes whole (Awaits (field_of (with_text_keys n)) part_events Next) a b c before after same.0 (subst (λ z. Midway takes whole (Awaits (field_of (with_text_keys n)) part_events Next) a b before z) (sym same.1) m)

-- ---- tokens

-- after some bytes the rest is read so
went_on : {Y B : Type 0} (takes : B → Event → B → Type 0) (whole now : Reader Y) (Next Then : Reader Y → List Event → Type 0) (text : List ℕ) (a b c : Window) (before after : B)
    → (m : Midway takes whole Next a b before after) → Took b c text → ((x : List ℕ) → m.now (text ++ x) ≡ now x) → Then now m.so_far
    → Midway takes whole Then a c before after
went_on takes whole now Next Then text a b c before after m took on next = record {
  text = m.text ++ text;
  so_far = m.so_far;
  now = now;
  took = took_then a b c m.text text m.took took;
  continues = λ x. ap whole (append_assoc m.text text x) ∙ m.continues (text ++ x) ∙ on x;
  told = m.told;
  next = next;
}

value_token : {Y B : Type 0} (takes : B → Event → B → Type 0) (whole : Reader Y) (n : ℕ) (t : Token) (Next : Reader Y → List Event → Type 0) (a b c : Window) (before after : B)
    → TookToken b c t → (IsContainer t → 0 < n) → Midway takes whole (Awaits (with_text_keys n) events Next) a b before after
    → Midway takes whole (Awaits (value_rest n t) events Next) a c before after
value_token takes whole n t Next a b c before after took level m =
    went_on takes whole (value_rest n t >>= m.next.0) _ _ took.text a b c before after m took.took
    (λ x. m.next.1 (took.text ++ x) ∙ ap (and_then m.next.0) (value_begins n t took.text took.spelled level x))
    (m.next.0, (λ x. refl), m.next.2)

-- a token was taken where a value or a field is due, and is no skip of a field
pub midway_token : {Y B : Type 0} (takes : B → Event → B → Type 0) (whole : Reader Y) (due : Part) (n : ℕ) (t : Token) (Next : Reader Y → List Event → Type 0) (a b c : Window) (before after : B)
    → TookToken b c t → (IsContainer t → 0 < n) → (due ≡ Field → t ≡ tokens.Skip → ⊥) → Midway takes whole (AwaitsPart due n Next) a b before after
    → Midway takes whole (Awaits (value_rest n t) events Next) a c before after
midway_token takes whole Item n t Next a b c before after took level never m = value_token takes whole n t Next a b c before after took level m
midway_token takes whole Entry n t Next a b c before after took level never m = value_token takes whole n t Next a b c before after took level m
midway_token takes whole Field n t Next a b c before after took level never m =
    let k = m.next.0 in
    went_on takes whole (value_rest n t >>= λ u. k (Some u)) _ _ took.text a b c before after m took.took
    (λ x. m.next.1 (took.text ++ x) ∙ ap (and_then k) (field_begins n t took.text took.spelled level (never refl) x) ∙ map_then (value_rest n t x) (λ u. Some u) k)
    ((λ u. k (Some u)), (λ x. refl), λ u. m.next.2 (Some u))

-- a field was skipped, and that was told
pub midway_skip : {Y B : Type 0} (takes : B → Event → B → Type 0) (whole : Reader Y) (due : Part) (n : ℕ) (t : Token) (Next : Reader Y → List Event → Type 0) (a b c : Window) (before mid after : B)
    → (due ≡ Field) × (t ≡ tokens.Skip) → TookToken b c t → takes mid skip after → Midway takes whole (AwaitsPart due n Next) a b before mid
    → Midway takes whole Next a c before after
midway_skip takes whole due n t Next a b c before mid after is took told m =
    let at : Midway takes whole (Awaits (field_of (with_text_keys n)) part_events Next) a b before mid = subst (λ d. Midway takes whole (AwaitsPart d n Next) a b before mid) is.0 m in
    let skipped : TookToken b c tokens.Skip = subst (λ z. TookToken b c z) is.1 took in
    midway_found takes whole (field_of (with_text_keys n)) part_events Next a b c before mid after at
    (record { text = skipped.text; value = None; took = skipped.took; passes = skip_there (with_text_keys n) skipped.text skipped.spelled; told = takes_one takes mid after skip told })

-- ---- containers

opened_leads : {Y : Type 0} (ev : Y → List Event) (f g : Frame) (fs : List Frame) (es begun : List Event) (tree : Left f.parts → Tree) (k : Tree → Reader Y)
    → ((l : Left f.parts) → Fits f.parts l → events (tree l) ≡ begun ++ (left_events f.parts l ++ close ∷ []))
    → ((u : Tree) → Leads ev (g ∷ fs) (k u) (es ++ events u))
    → Leads ev (f ∷ g ∷ fs) (parts_of f.levels f.parts >>= λ l. k (tree l)) (es ++ begun)
opened_leads ev f g fs es begun tree k whole rest = (
  λ l. k (tree l),
  λ x. refl,
  λ l fits. subst (Leads ev (g ∷ fs) (k (tree l))) (ap (λ z. es ++ z) (whole l fits) ∙ sym (append_assoc es begun (left_events f.parts l ++ close ∷ []))) (rest (tree l)),
)

-- a container was opened
pub midway_opened : {Y B : Type 0} (takes : B → Event → B → Type 0) (whole : Reader Y) (ev : Y → List Event) (r : Reader Tree) (f g : Frame) (fs : List Frame) (a b c : Window) (before mid after : B)
    → Opened takes r f b c mid after → Midway takes whole (Awaits r events (Leads ev (g ∷ fs))) a b before mid
    → Midway takes whole (Leads ev (f ∷ g ∷ fs)) a c before after
midway_opened takes whole ev r f g fs a b c before mid after opened m =
    let k = m.next.0 in
    record {
      text = m.text ++ opened.text;
      so_far = m.so_far ++ opened.begun;
      now = parts_of f.levels f.parts >>= λ l. k (opened.tree l);
      took = took_then a b c m.text opened.text m.took opened.took;
      continues = λ x. ap whole (append_assoc m.text opened.text x) ∙ m.continues (opened.text ++ x) ∙ m.next.1 (opened.text ++ x)
          ∙ ap (and_then k) (opened.continues x) ∙ map_then (parts_of f.levels f.parts x) opened.tree k;
      told = takes_then takes before mid after m.so_far opened.begun m.told opened.told;
      next = opened_leads ev f g fs m.so_far opened.begun opened.tree k opened.whole m.next.2;
    }

-- a container was closed, and that was told
pub midway_closed : {Y B : Type 0} (takes : B → Event → B → Type 0) (whole : Reader Y) (ev : Y → List Event) (f g : Frame) (fs : List Frame) (a b c : Window) (before mid after : B)
    → IsDone f.parts → c ≡ b → takes mid close after → Midway takes whole (Leads ev (f ∷ g ∷ fs)) a b before mid → Midway takes whole (Leads ev (g ∷ fs)) a c before after
midway_closed takes whole ev f g fs a b c before mid after done same told m =
    let h = leads_closed ev f g fs m.now m.so_far done m.next in
    midway_at takes whole (Leads ev (g ∷ fs)) a b c before after same
    (record {
      text = m.text;
      so_far = m.so_far ++ close ∷ [];
      now = h.0;
      took = m.took;
      continues = λ x. m.continues x ∙ h.1 x;
      told = takes_then takes before mid after m.so_far (close ∷ []) m.told (takes_one takes mid after close told);
      next = h.2;
    })

-- all was read
pub midway_ends : {Y B : Type 0} (takes : B → Event → B → Type 0) (whole : Reader Y) (ev : Y → List Event) (f : Frame) (a b : Window) (before after : B)
    → IsDone f.parts → Midway takes whole (Leads ev (f ∷ [])) a b before after → Found takes whole ev a b before after
midway_ends takes whole ev f a b before after done m =
    let h = leads_ended ev f m.now m.so_far done m.next in
    record {
      text = m.text;
      value = h.0;
      took = m.took;
      passes = λ x. m.continues x ∙ h.1 x;
      told = subst (λ es. TakesAll takes before es after) (sym h.2) m.told;
    }

-- ---- refusals

-- a part that is refused refuses the whole
untaken : {X Y : Type 0} (whole now : Reader Y) (r : Reader X) (k : X → Reader Y) (e : Error) (a b : Window) (text : List ℕ)
    → Continues whole now text → ((x : List ℕ) → now x ≡ (r >>= k) x) → Took a b text → Names r e b → Names whole e a
untaken whole now r k e a b text on same took h =
    blames_untaken (RefusedAs r) (RefusedAs whole) e a b text (λ f x p. on x ∙ same x ∙ ap (and_then k) p) took h

named_or : {P Q M N : Type 0} → (P → Q) → (M → N) → P ⊎ M → Q ⊎ N
named_or f g (inl h) = inl (f h)
named_or f g (inr h) = inr (g h)

pub midway_refused : {X Y B : Type 0} (takes : B → Event → B → Type 0) (whole : Reader Y) (r : Reader X) (told_of : X → List Event) (Next : Reader Y → List Event → Type 0)
    (wants wanted : Type 0) (e : Error) (a b c : Window) (before after : B)
    → (wants → wanted) → Midway takes whole (Awaits r told_of Next) a b before after → Refuses wants r e b c → Refuses wanted whole e a c
midway_refused takes whole r told_of Next wants wanted e a b c before after more m refused = record {
  fails = fails_untaken e a b c m.text m.took refused.fails;
  name = named_or (untaken whole m.now r m.next.0 e a b m.text m.continues m.next.1 m.took) (λ h. (h.0, more h.1)) refused.name;
}

-- a key is refused
pub key_refused : {Y B : Type 0} (takes : B → Event → B → Type 0) (whole : Reader Y) (due : Part) (n : ℕ) (Next : Reader Y → List Event → Type 0)
    (wants wanted : Type 0) (e : Error) (a b c : Window) (before after : B)
    → (wants → wanted) → due ≡ Entry → Midway takes whole (AwaitsDue due n Next) a b before after → Refuses wants (text_of MapKey) e b c → Refuses wanted whole e a c
key_refused takes whole due n Next wants wanted e a b c before after more is m refused =
    midway_refused takes whole (text_of MapKey) (λ s. key s ∷ []) (Awaits (with_text_keys n) events Next) wants wanted e a b c before after more
    (subst (λ d. Midway takes whole (AwaitsDue d n Next) a b before after) is m) refused

names_of : {X : Type 0} (n : ℕ) (r : Reader X) (e : Error) (a : Window) → ((f : Error) (b : List ℕ) → token_at n b ≡ refuses f → r b ≡ refuses f) → Names (token_at n) e a → Names r e a
names_of n r e a same h = blames_more (RefusedAs (token_at n)) (RefusedAs r) e a same h

-- a token is refused
pub token_refused : {Y B : Type 0} (takes : B → Event → B → Type 0) (whole : Reader Y) (due : Part) (n : ℕ) (Next : Reader Y → List Event → Type 0)
    (wanted : Type 0) (e : Error) (a b c : Window) (before after : B)
    → Midway takes whole (AwaitsPart due n Next) a b before after → Fails e b c → Names (token_at n) e b → Refuses wanted whole e a c
token_refused takes whole Item n Next wanted e a b c before after m fails names =
    midway_refused takes whole (with_text_keys n) events Next wanted wanted e a b c before after (λ h. h) m
    (record { fails = fails; name = inl (names_of n (with_text_keys n) e b (λ f x h. value_refused n x f h) names) })
token_refused takes whole Entry n Next wanted e a b c before after m fails names =
    midway_refused takes whole (with_text_keys n) events Next wanted wanted e a b c before after (λ h. h) m
    (record { fails = fails; name = inl (names_of n (with_text_keys n) e b (λ f x h. value_refused n x f h) names) })
token_refused takes whole Field n Next wanted e a b c before after m fails names =
    midway_refused takes whole (field_of (with_text_keys n)) part_events Next wanted wanted e a b c before after (λ h. h) m
    (record { fails = fails; name = inl (names_of n (field_of (with_text_keys n)) e b (λ f x h. field_refused n x f h) names) })

-- the container around the innermost goes on, by what stands around that
pub midway_popped : {Y B : Type 0} (takes : B → Event → B → Type 0) (whole : Reader Y) (ev : Y → List Event) (f g : Frame) (fs all : List Frame) (a b c : Window) (before mid after : B)
    → all ≡ g ∷ fs → IsDone f.parts → c ≡ b → takes mid close after → Midway takes whole (Leads ev (f ∷ all)) a b before mid → Midway takes whole (Leads ev (g ∷ fs)) a c before after
midway_popped takes whole ev f g fs all a b c before mid after around done same told m =
    midway_closed takes whole ev f g fs a b c before mid after done same told (subst (λ l. Midway takes whole (Leads ev (f ∷ l)) a b before mid) around m)

-- all was read, where nothing stands around the innermost
pub midway_done : {Y B : Type 0} (takes : B → Event → B → Type 0) (whole : Reader Y) (ev : Y → List Event) (f : Frame) (all : List Frame) (a b : Window) (before after : B)
    → all ≡ [] → IsDone f.parts → Midway takes whole (Leads ev (f ∷ all)) a b before after → Found takes whole ev a b before after
midway_done takes whole ev f all a b before after alone done m =
    midway_ends takes whole ev f a b before after done (subst (λ l. Midway takes whole (Leads ev (f ∷ l)) a b before after) alone m)

-- a value was read, by what the call answered
pub midway_value : {Y B : Type 0} (takes : B → Event → B → Type 0) (whole : Reader Y) (r : Reader Tree) (Next : Reader Y → List Event → Type 0) (o : Option Frame) (a b c : Window) (before mid after : B)
    → o ≡ None → FoundOrOpened takes r b c mid after o → Midway takes whole (Awaits r events Next) a b before mid → Midway takes whole Next a c before after
midway_value takes whole r Next o a b c before mid after is found m =
    midway_found takes whole r events Next a b c before mid after m (subst (FoundOrOpened takes r b c mid after) is found)

-- a container was opened in another, by what stands around that
pub midway_pushed : {Y B : Type 0} (takes : B → Event → B → Type 0) (whole : Reader Y) (ev : Y → List Event) (r : Reader Tree) (o : Option Frame) (f g : Frame) (fs all : List Frame)
    (a b c : Window) (before mid after : B)
    → all ≡ g ∷ fs → o ≡ Some f → FoundOrOpened takes r b c mid after o → Midway takes whole (Awaits r events (Leads ev (g ∷ fs))) a b before mid
    → Midway takes whole (Leads ev (f ∷ all)) a c before after
midway_pushed takes whole ev r o f g fs all a b c before mid after around is opened m =
    subst (λ l. Midway takes whole (Leads ev (f ∷ l)) a c before after) (sym around)
    (midway_opened takes whole ev r f g fs a b c before mid after (subst (FoundOrOpened takes r b c mid after) is opened) m)
