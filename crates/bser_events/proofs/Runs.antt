-- Pieces that are taken from what is buffered, one after the other.
use Rattle.std.proofs.Common.{◌≡◌, ℕ, ◌+◌, ◌-◌, ◌*◌, ◌≤◌, ◌<◌, List, [], ◌∷◌, length, take, drop, drop-drop, length-drop, refl, sym, ap, subst, ◌∙◌, arith, inr, false}
use Rattle.std.specs.Prelude.{Option, Some, None}
use Rattle.bser_format.specs.declared.errors.Error.{Error}
use Rattle.bser_format.specs.declared.errors.Error.TheVariants.{OutOfMemory}
use Rattle.bser_format.specs.declared.errors.Kind.TheVariants.{MapKey}
use Rattle.bser_format.specs.Named.{Reader, text_of, field_of, with_text_keys}
use Rattle.bser_source.specs.Window.{Window, AreOctets, Took, consumed, closed}
use Rattle.bser_source.proofs.Windows.{taken, octets_rest}
use Rattle.bser_events.specs.Events.{Event, TakesAll, key, events, part_events}
use Rattle.bser_events.specs.Frames.{CountsDown, CountsOn, IsDone}
use Rattle.bser_events.specs.Found.{Found, Refuses}
use Rattle.bser_events.specs.Pieces.{InFront, DueInFront}
use Rattle.bser_events.specs.declared.frame.Frame.{Frame}
use Rattle.bser_events.specs.declared.frame.Remaining.{Remaining}
use Rattle.bser_events.specs.declared.frame.Part.{Part}
use Rattle.bser_events.specs.declared.frame.Part.TheVariants.{Item, Entry, Field}
use Rattle.bser_events.proofs.Takings.{takes_one}
use Rattle.bser_events.proofs.Leads.{Leads, Awaits, AwaitsDue, frame_of}
use Rattle.bser_events.proofs.Midways.{Midway, midway_due, midway_found, midway_seen}
use Rattle.bser_events.proofs.Measures.{parts_left, one_less}
use Rattle.bser_events.proofs.InFront.{rest_whole}

-- ---- what is due

-- this is due, or no part is left of the innermost container
abbrev pub AwaitsNext : {Y : Type 0} → (Y → List Event) → Option Part → ℕ → Remaining → List Frame → Reader Y → List Event → Type 0
AwaitsNext ev None n p fs now es = Leads ev (frame_of n p ∷ fs) now es × IsDone p
AwaitsNext ev (Some due) n p fs now es = AwaitsDue due n (Leads ev (frame_of n p ∷ fs)) now es

-- after a piece: after a key the value, and else what is next
abbrev pub AwaitsMore : {Y : Type 0} → Part → ℕ → (Reader Y → List Event → Type 0) → Reader Y → List Event → Type 0
AwaitsMore Entry n Next now es = Awaits (with_text_keys n) events Next now es
AwaitsMore _ n Next now es = Next now es

pub midway_next : {Y B : Type 0} (takes : B → Event → B → Type 0) (whole : Reader Y) (ev : Y → List Event) (d : Option Part) (n : ℕ) (p q : Remaining) (fs : List Frame)
    (a b : Window) (before after : B)
    → CountsDown p q d → Midway takes whole (Leads ev (frame_of n p ∷ fs)) a b before after → Midway takes whole (AwaitsNext ev d n q fs) a b before after
midway_next takes whole ev None n p q fs a b before after counted m =
    subst (λ z. Midway takes whole (AwaitsNext ev None n z fs) a b before after) (sym counted.1)
    (midway_seen takes whole (Leads ev (frame_of n p ∷ fs)) (AwaitsNext ev None n p fs) a b before after (λ now es h. (h, counted.0)) m)
midway_next takes whole ev (Some due) n p q fs a b before after counted m = midway_due takes whole ev due n p q fs a b before after counted m

midway_on : {Y B : Type 0} (takes : B → Event → B → Type 0) (whole : Reader Y) (ev : Y → List Event) (due : Part) (d : Option Part) (n : ℕ) (p q : Remaining) (fs : List Frame)
    (a b : Window) (before after : B)
    → CountsOn due p q d → Midway takes whole (AwaitsMore due n (Leads ev (frame_of n p ∷ fs))) a b before after → Midway takes whole (AwaitsNext ev d n q fs) a b before after
midway_on takes whole ev Entry d n p q fs a b before after (is, same) m =
    subst (λ z. Midway takes whole (AwaitsNext ev z n q fs) a b before after) (sym is)
    (subst (λ z. Midway takes whole (AwaitsNext ev (Some Item) n z fs) a b before after) (sym same) m)
midway_on takes whole ev Item d n p q fs a b before after counted m = midway_next takes whole ev d n p q fs a b before after counted m
midway_on takes whole ev Field d n p q fs a b before after counted m = midway_next takes whole ev d n p q fs a b before after counted m

-- ---- a piece

pub consumed_then : (m n : ℕ) (b : Window) → consumed n (consumed m b) ≡ consumed (m + n) b
consumed_then m n b =
    ap (λ l. record b { buffered = l; count = b.count + m + n }) (drop-drop n m b.buffered)
    ∙ ap (λ k. record b { buffered = drop (m + n) b.buffered; count = k }) (let e : b.count + m + n ≡ b.count + (m + n) = omega arith in e)

piece_found : {X B : Type 0} (takes : B → Event → B → Type 0) (r : Reader X) (told_of : X → List Event) (at n : ℕ) (e : Event) (b : Window) (before after : B)
    → InFront r told_of (drop at b.buffered) n e → AreOctets b.buffered → b.failed ≡ false → takes before e after
    → Found takes r told_of (consumed at b) (consumed (at + n) b) before after
piece_found takes r told_of at n e b before after is small works told = record {
  text = take n (drop at b.buffered);
  value = is.value;
  took = subst (λ w. Took (consumed at b) w (take n (drop at b.buffered))) (consumed_then at n b)
      (taken n (consumed at b) (octets_rest at b.buffered small) is.within works);
  passes = is.passes;
  told = subst (λ es. TakesAll takes before es after) (sym is.one) (takes_one takes before after e told);
}

midway_piece : {Y B : Type 0} (takes : B → Event → B → Type 0) (whole : Reader Y) (due : Part) (levels : ℕ) (Next : Reader Y → List Event → Type 0) (at n : ℕ) (e : Event)
    (a b : Window) (before mid after : B)
    → DueInFront due (drop at b.buffered) n e → AreOctets b.buffered → takes mid e after
    → Midway takes whole (AwaitsDue due levels Next) a (consumed at b) before mid → Midway takes whole (AwaitsMore due levels Next) a (consumed (at + n) b) before after
midway_piece takes whole Entry levels Next at n e a b before mid after is small told m =
    midway_found takes whole (text_of MapKey) (λ s. key s ∷ []) (Awaits (with_text_keys levels) events Next) a (consumed at b) (consumed (at + n) b) before mid after m
    (piece_found takes (text_of MapKey) (λ s. key s ∷ []) at n e b mid after is small m.took.failed told)
midway_piece takes whole Item levels Next at n e a b before mid after is small told m =
    midway_found takes whole (with_text_keys levels) events Next a (consumed at b) (consumed (at + n) b) before mid after m
    (piece_found takes (with_text_keys levels) events at n e b mid after (is levels) small m.took.failed told)
midway_piece takes whole Field levels Next at n e a b before mid after is small told m =
    midway_found takes whole (field_of (with_text_keys levels)) part_events Next a (consumed at b) (consumed (at + n) b) before mid after m
    (piece_found takes (field_of (with_text_keys levels)) part_events at n e b mid after (is levels) small m.took.failed told)

-- a piece that is due was told, and what comes after it is due
pub run_on : {Y B : Type 0} (takes : B → Event → B → Type 0) (whole : Reader Y) (ev : Y → List Event) (due : Part) (now d : Option Part) (levels : ℕ) (p q : Remaining) (fs : List Frame)
    (at n : ℕ) (e : Event) (bytes : List ℕ) (a b : Window) (before mid after : B)
    → DueInFront due (take (length bytes - at) (drop at bytes)) n e → AreOctets bytes → b.buffered ≡ bytes → takes mid e after → now ≡ Some due → CountsOn due p q d
    → Midway takes whole (AwaitsNext ev now levels p fs) a (consumed at b) before mid
    → Midway takes whole (AwaitsNext ev d levels q fs) a (consumed (at + n) b) before after
run_on takes whole ev due now d levels p q fs at n e bytes a b before mid after is small same told awaited counted m =
    midway_on takes whole ev due d levels p q fs a (consumed (at + n) b) before after counted
    (midway_piece takes whole due levels (Leads ev (frame_of levels p ∷ fs)) at n e a b before mid after
    (subst (λ l. DueInFront due (drop at l) n e) (sym same) (subst (λ l. DueInFront due l n e) (rest_whole at bytes) is)) (subst AreOctets (sym same) small) told
    (subst (λ z. Midway takes whole (AwaitsNext ev z levels p fs) a (consumed at b) before mid) awaited m))

due_within : (due : Part) (n : ℕ) (e : Event) (held : List ℕ) → DueInFront due held n e → n ≤ length held
due_within Entry n e held is = is.within
due_within Item n e held is = (is 0).within
due_within Field n e held is = (is 0).within

pub piece_within : (due : Part) (at n : ℕ) (e : Event) (bytes : List ℕ) → at ≤ length bytes → DueInFront due (take (length bytes - at) (drop at bytes)) n e → at + n ≤ length bytes
piece_within due at n e bytes inside is = let le = due_within due n e _ (subst (λ l. DueInFront due l n e) (rest_whole at bytes) is) in omega (arith, inside, le, length-drop at bytes)

-- nothing was taken yet
pub run_begins : {Y B : Type 0} (takes : B → Event → B → Type 0) (whole : Reader Y) (Next : Reader Y → List Event → Type 0) (a b : Window) (before : B) (after : Window → B)
    → Midway takes whole Next a b before (after b) → Midway takes whole Next a (consumed 0 b) before (after (consumed 0 b))
run_begins takes whole Next a b before after m = subst (λ w. Midway takes whole Next a w before (after w)) (sym same) m
  where
    same : consumed 0 b ≡ b
    same = ap (λ k. record b { count = k }) (let e : b.count + 0 ≡ b.count = omega arith in e)

-- what was taken of the buffered bytes, and is not counted yet
pub ran_at : {Y B : Type 0} (takes : B → Event → B → Type 0) (whole : Reader Y) (ev : Y → List Event) (first d : Option Part) (n m at : ℕ) (p o q : Remaining) (fs : List Frame)
    (a b : Window) (before mid after : B)
    → Midway takes whole (Leads ev (frame_of n p ∷ fs)) a b before mid → CountsDown p o first
    → (Midway takes whole (AwaitsNext ev first n o fs) a b before mid → Midway takes whole (AwaitsNext ev d m q fs) a (consumed at b) before after)
    → Midway takes whole (AwaitsNext ev d m q fs) a (consumed at b) before after
ran_at takes whole ev first d n m at p o q fs a b before mid after m0 counted run =
    run (midway_next takes whole ev first n p o fs a b before mid counted m0)

-- the same, once it is counted
pub ran : {Y B : Type 0} (takes : B → Event → B → Type 0) (whole : Reader Y) (ev : Y → List Event) (first d : Option Part) (n m at : ℕ) (p o q : Remaining) (fs : List Frame)
    (a b c : Window) (before mid : B) (after : Window → B)
    → Midway takes whole (Leads ev (frame_of n p ∷ fs)) a b before mid → CountsDown p o first
    → (Midway takes whole (AwaitsNext ev first n o fs) a b before mid → Midway takes whole (AwaitsNext ev d m q fs) a (consumed at b) before (after (consumed at b)))
    → c ≡ consumed at b → Midway takes whole (AwaitsNext ev d m q fs) a c before (after c)
ran takes whole ev first d n m at p o q fs a b c before mid after m0 counted run end =
    subst (λ w. Midway takes whole (AwaitsNext ev d m q fs) a w before (after w)) (sym end)
    (ran_at takes whole ev first d n m at p o q fs a b before mid (after (consumed at b)) m0 counted run)

-- something is due then
pub ran_due : {Y B : Type 0} (takes : B → Event → B → Type 0) (whole : Reader Y) (ev : Y → List Event) (d e : Option Part) (due : Part) (n : ℕ) (q : Remaining) (fs : List Frame)
    (a b : Window) (before after : B)
    → e ≡ d → e ≡ Some due → Midway takes whole (AwaitsNext ev d n q fs) a b before after → Midway takes whole (AwaitsDue due n (Leads ev (frame_of n q ∷ fs))) a b before after
ran_due takes whole ev d e due n q fs a b before after same is m =
    subst (λ z. Midway takes whole (AwaitsNext ev z n q fs) a b before after) (sym same ∙ is) m

-- no part is left then
pub ran_out : {Y B : Type 0} (takes : B → Event → B → Type 0) (whole : Reader Y) (ev : Y → List Event) (d e : Option Part) (n : ℕ) (q : Remaining) (fs : List Frame)
    (a b : Window) (before after : B)
    → e ≡ d → e ≡ None → Midway takes whole (AwaitsNext ev d n q fs) a b before after → Midway takes whole (AwaitsNext ev None n q fs) a b before after
ran_out takes whole ev d e n q fs a b before after same is m =
    subst (λ z. Midway takes whole (AwaitsNext ev z n q fs) a b before after) (sym same ∙ is) m

pub all_left : {Y B : Type 0} (takes : B → Event → B → Type 0) (whole : Reader Y) (ev : Y → List Event) (n : ℕ) (q : Remaining) (fs : List Frame) (a b : Window) (before after : B)
    → Midway takes whole (AwaitsNext ev None n q fs) a b before after → Midway takes whole (Leads ev (frame_of n q ∷ fs)) a b before after
all_left takes whole ev n q fs a b before after m = midway_seen takes whole (AwaitsNext ev None n q fs) (Leads ev (frame_of n q ∷ fs)) a b before after (λ now es h. h.0) m

-- no memory for what is told of a piece
pub run_refused : {Y B : Type 0} (takes : B → Event → B → Type 0) (wants : Type 0) (whole : Reader Y) (Next : Reader Y → List Event → Type 0) (at : ℕ) (e : Error) (a b c : Window) (before after : B)
    → Midway takes whole Next a (consumed at b) before after → e ≡ OutOfMemory → wants → c ≡ closed b → Refuses wants whole e a c
run_refused takes wants whole Next at e a b c before after m is why end =
    subst (λ z. Refuses wants whole e a z) (sym end) closed_now
  where
    closed_now : Refuses wants whole e a (closed b)
    closed_now = subst (λ z. Refuses wants whole z a (closed b)) (sym is) (record {
      fails = record {
        before = λ old. (let works = m.took.working in absurd cc);
        failed = refl;
        lends = m.took.lends;
        through = m.took.through;
        failures = m.took.failures;
      };
      name = inr (refl, why);
    })

-- no memory after what was read
pub memory_refused : {Y B : Type 0} (takes : B → Event → B → Type 0) (wants : Type 0) (whole : Reader Y) (Next : Reader Y → List Event → Type 0) (e : Error) (a b c : Window) (before after : B)
    → Midway takes whole Next a b before after → e ≡ OutOfMemory → wants → c ≡ closed b → Refuses wants whole e a c
memory_refused takes wants whole Next e a b c before after m is why end =
    subst (λ z. Refuses wants whole e a z) (sym end) (subst (λ z. Refuses wants whole z a (closed b)) (sym is) (record {
      fails = record {
        before = λ old. (let works = m.took.working in absurd cc);
        failed = refl;
        lends = m.took.lends;
        through = m.took.through;
        failures = m.took.failures;
      };
      name = inr (refl, why);
    }))

-- ---- how much is left

-- where something is due, fewer parts are left than there were
abbrev pub Falls : Option Part → Remaining → Remaining → Type 0
Falls None p q = Unit {0}
Falls (Some due) p q = parts_left q < parts_left p

pub falls_first : (d : Option Part) (p q : Remaining) → CountsDown p q d → Falls d p q
falls_first None p q counted = tt
falls_first (Some due) p q counted = omega (arith, one_less due p q counted)

pub falls_on : (due : Part) (d : Option Part) (o p q : Remaining) → CountsOn due p q d → Falls (Some due) o p → Falls d o q
falls_on Entry d o p q (is, same) less = subst (λ z. Falls z o q) (sym is) (subst (λ z. parts_left z < parts_left o) (sym same) less)
falls_on Item d o p q counted less = further d counted
  where
    further : (d : Option Part) → CountsDown p q d → Falls d o q
    further None c = tt
    further (Some due) c = omega (arith, less, one_less due p q c)
falls_on Field d o p q counted less = further d counted
  where
    further : (d : Option Part) → CountsDown p q d → Falls d o q
    further None c = tt
    further (Some due) c = omega (arith, less, one_less due p q c)

pub ran_falls : (d e : Option Part) (due : Part) (p q : Remaining) → e ≡ d → e ≡ Some due → Falls d p q → parts_left q < parts_left p
ran_falls d e due p q same is falls = subst (λ z. Falls z p q) (sym same ∙ is) falls

-- a number that falls with each piece
pub pieces_left : Option Part → Remaining → ℕ
pieces_left None p = 0
pieces_left (Some Entry) p = 2 + 2 * parts_left p
pieces_left (Some Item) p = 1 + 2 * parts_left p
pieces_left (Some Field) p = 1 + 2 * parts_left p

fewer_left : (d : Option Part) (p q : Remaining) → CountsDown p q d → pieces_left d q < 1 + 2 * parts_left p
unfolding pieces_left
fewer_left None p q counted = omega arith
fewer_left (Some Entry) p q counted = omega (arith, one_less Entry p q counted)
fewer_left (Some Item) p q counted = omega (arith, one_less Item p q counted)
fewer_left (Some Field) p q counted = omega (arith, one_less Field p q counted)

pub pieces_fall : (due : Part) (d : Option Part) (p q : Remaining) → CountsOn due p q d → pieces_left d q < pieces_left (Some due) p
unfolding pieces_left
pieces_fall Entry d p q (is, same) = rw (is, same) (omega arith)
pieces_fall Item d p q counted = fewer_left d p q counted
pieces_fall Field d p q counted = fewer_left d p q counted
