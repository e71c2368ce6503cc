-- What stands there whole is read, and reported.
use Rattle.std.proofs.Common.{◌≡◌, ◌≤◌, ◌<◌, ◌+◌, ◌-◌, ◌^◌, ℕ, ℤ, Bool, true, false, List, [], ◌∷◌, ◌++◌, length, take, drop, get_or, length-append, length-drop, append-nil, append_assoc, refl, sym, ap, subst, ◌∙◌, arith, inl, inr, IsUtf8}
use Rattle.std.specs.Prelude.{Option, Some, None, IfSome}
use Rattle.std.proofs.lemmas.List.{take_at, take_rest}
use Rattle.std.specs.Int.{w32, to_le_bytes}
use Rattle.bser_format.specs.Grammar.{Format, Spells, SpellsBytes, SpellsCount, SpellsText}
use Rattle.bser_format.specs.Message.{Head}
use Rattle.bser_format.specs.Tree as trees
use Rattle.bser_format.specs.Tree.{Tree}
use Rattle.bser_format.specs.Named.{reads, give, and_then, front, utf8, with_text_keys}
use Rattle.bser_format.proofs.Frames.{framed}
use Rattle.bser_format.proofs.GrammarLaws.{more_levels}
use Rattle.bser_format.proofs.TextLaws.{reads_text_keys}
use Rattle.bser_source.specs.Window.{AreOctets}
use Rattle.bser_source.proofs.Windows.{octets_rest}
use Rattle.bser_bunser.specs.Tokens.{Headed, SpellsToken, tag_of_string}
use Rattle.bser_bunser.specs.declared.prefix.Token.{Token}
use Rattle.bser_bunser.specs.declared.prefix.Token.TheVariants as tokens
use Rattle.bser_bunser.proofs.Readers.{front_there}
use Rattle.bser_events.specs.Events as told
use Rattle.bser_events.specs.Events.{Event, events, key}
use Rattle.bser_events.specs.Found.{IsContainer, value_rest}
use Rattle.bser_events.specs.Pieces.{IsScalar}
use Rattle.bser_events.specs.Places.{Marked, TakesIn, begins_as_text, place_at}
use Rattle.bser_events.specs.Takes.{CutsText, ReadsKey}
use Rattle.bser_events.specs.declared.event.Place.{Place}
use Rattle.bser_events.proofs.AtStart.{key_reads}
use Rattle.bser_events.proofs.Begins.{value_begins}
use Rattle.bser_events.proofs.Placings.{bytes_spelled, scalar_mark, text_spelled}
use Rattle.bser_events.proofs.Texts.{utf8_reads}
use Rattle.bser_messages.proofs.Heads.{body_size}
use Rattle.bser_messages.specs.Limited.{usual_limits}
use Rattle.bser_messages.specs.Told.{BeginsTold}
use Rattle.bser_messages.specs.declared.told.Header.{Header}
use Rattle.bser_c.specs.Direct.{Stands, TellsKey, TellsValue, between}
use Rattle.bser_c.proofs.Between.{further, joined_between, length-between, one_byte, parted, told_one}

-- ---- heads

-- what is in front of the bytes from a place on
pub stands_there : (F : Format) (bytes : List ℕ) (at n : ℕ) → at ≤ length bytes → (n ≤ length (take (length bytes - at) (drop at bytes))) × F (take n (take (length bytes - at) (drop at bytes))) → Stands F bytes at (at + n)
stands_there F bytes at n within h =
    let rest : take (length bytes - at) (drop at bytes) ≡ drop at bytes = take_rest bytes at in
    let size : (at + n) - at ≡ n = omega arith in
    record {
      forwards = omega arith;
      within = omega (arith, within, h.0, ap length rest, length-drop at bytes);
      spelled = subst (λ k. F (take k (drop at bytes))) (sym size) (subst (λ l. F (take n l)) rest h.1);
    }

-- the magic, the capabilities, and the length of a body
pub head_stands : (bytes : List ℕ) (n end c : ℕ) → 6 ≤ length bytes → get_or bytes 0 0 ≡ 0x00 → get_or bytes 1 0 ≡ 0x02 → to_le_bytes w32 c ≡ between 2 6 bytes → c < 2 ^ 32 → Stands (SpellsCount n) bytes 6 end → Stands (Head c n) bytes 0 end
head_stands bytes n end c some first second capabilities small len =
    let behind = len.forwards in
    let magic : between 0 2 bytes ≡ 0x00 ∷ 0x02 ∷ [] =
    sym (joined_between 0 1 2 bytes (omega arith) (omega arith)) ∙ ap (λ l. l ++ between 1 2 bytes) (one_byte bytes 0 0x00 (omega (arith, some)) first) ∙ ap (λ l. 0x00 ∷ l) (one_byte bytes 1 0x02 (omega (arith, some)) second) in
    record {
      forwards = omega arith;
      within = len.within;
      spelled = (
        small,
        record {
          front = between 0 2 bytes;
          rest = between 2 end bytes;
          whole = sym (joined_between 0 2 end bytes (omega arith) (omega (arith, behind)));
          first = magic;
          second = record {
            front = between 2 6 bytes;
            rest = between 6 end bytes;
            whole = sym (joined_between 2 6 end bytes (omega arith) behind);
            first = sym capabilities;
            second = len.spelled;
          };
        },
      );
    }

-- a key, under either tag
keyed : (b : Bool) (n : ℕ) (pre s : List ℕ) → length s ≡ n → IsUtf8 s → Headed (tag_of_string b) (SpellsCount n) pre → Marked b (key s) (pre ++ s)
keyed true n pre s len utf8_is h = (subst (λ l. true ≡ begins_as_text (l ++ s)) (sym h.whole) refl, (utf8_is, inr (text_spelled n pre s s s len refl refl utf8_is h)))
keyed false n pre s len utf8_is h = (subst (λ l. false ≡ begins_as_text (l ++ s)) (sym h.whole) refl, (utf8_is, inl (bytes_spelled n pre s s len refl h)))

-- ---- tokens

pub token_read : (bytes : List ℕ) (levels : ℕ) (t : Token) (at to : ℕ) (tree : Tree) (z : List ℕ) → Stands (SpellsToken t) bytes at to → (IsContainer t → 0 < levels) → value_rest levels t (drop to bytes) ≡ reads tree z
    → with_text_keys levels (drop at bytes) ≡ reads tree z
token_read bytes levels t at to tree z head level rest =
    ap (with_text_keys levels) (parted at to bytes head.forwards) ∙ value_begins levels t (between at to bytes) head.spelled level (drop to bytes) ∙ rest

stands_as : (bytes : List ℕ) (t u : Token) (at to : ℕ) → Stands (SpellsToken t) bytes at to → t ≡ u → Stands (SpellsToken u) bytes at to
stands_as bytes t u at to stands is = subst (λ k. Stands (SpellsToken k) bytes at to) is stands

-- ---- an answer

-- what is true of the one place that is answered
pub answers : {P : Type 0} (o : Option ℕ) (end : ℕ) (Q : ℕ → Type 0) → IfSome o (λ _. P) → IfSome o (λ to. to ≡ end) → (P → Q end) → IfSome o Q
answers (Some to) end Q taken is f = subst Q (sym is) (f taken)
answers None end Q taken is f = tt

module _ {B : Type 0} (takes : B → Event → Place → B → Type 0) (bytes : List ℕ) (few : length bytes < 2 ^ 64) where
  -- ---- scalars

  pub scalar_told : (levels : ℕ) (t u : Token) (at to : ℕ) (tree : Tree) (e : Event) (a b : B) → Stands (SpellsToken t) bytes at to → t ≡ u → (IsContainer u → ⊥) → value_rest levels u (drop to bytes) ≡ reads tree (drop to bytes)
      → events tree ≡ e ∷ [] → IsScalar u e → takes a e (place_at at to false) b → TellsValue takes levels bytes at to a b
  scalar_told levels t u at to tree e a b stands is leaf rest one scalar taken =
      let head = stands_as bytes t u at to stands is in
      let forwards = head.forwards in
      let within = head.within in
      record {
        forwards = forwards;
        within = within;
        value = tree;
        read = token_read bytes levels u at to tree (drop to bytes) head (λ c. absurd (leaf c)) rest;
        told = subst (λ es. TakesIn takes at (between at to bytes) a es b) (sym one) (told_one takes bytes at to a b false e few forwards within (scalar_mark u e (between at to bytes) scalar head.spelled) taken);
      }

  pub int_told : (levels : ℕ) (t : Token) (at to : ℕ) (x y : ℤ) (a b : B) → Stands (SpellsToken t) bytes at to → t ≡ tokens.Int x → takes a (told.integer y) (place_at at to false) b → x ≡ y → TellsValue takes levels bytes at to a b
  int_told levels t at to x y a b stands is taken same =
      scalar_told levels t (tokens.Int x) at to (trees.integer x) (told.integer x) a b stands is (λ c. c) refl refl refl (subst (λ z. takes a (told.integer z) (place_at at to false) b) (sym same) taken)

  -- ---- strings

  module _ (is_text : Bool) (len start at end : ℕ) (head : Stands (SpellsToken (tokens.Str is_text len)) bytes start at) (enough : len ≤ length bytes - at) (end_is : end ≡ at + len) where
    string_place : (start ≤ end) × (at ≤ end) × (end ≤ length bytes)
    string_place = (let forwards = head.forwards in let within = head.within in (omega (arith, forwards, end_is), omega (arith, end_is), omega (arith, within, enough, end_is)))

    string_length : length (between at end bytes) ≡ len
    string_length = omega (arith, length-between at end bytes string_place.2, end_is)

    string_whole : between start at bytes ++ between at end bytes ≡ between start end bytes
    string_whole = joined_between start at end bytes head.forwards string_place.1

    key_mark : IsUtf8 (between at end bytes) → Marked is_text (key (between at end bytes)) (between start end bytes)
    key_mark utf8_is = subst (λ l. Marked is_text (key (between at end bytes)) l) string_whole (keyed is_text len (between start at bytes) (between at end bytes) string_length utf8_is head.spelled)

    string_cut : front len (drop at bytes) ≡ reads (between at end bytes) (drop end bytes)
    string_cut = ap (front len) (parted at end bytes string_place.1) ∙ front_there len (between at end bytes) string_length (drop end bytes)

  pub text_told : (levels len start at end : ℕ) (t : List ℕ) (a b : B) → Stands (SpellsToken (tokens.Str true len)) bytes start at → len ≤ length bytes - at → end ≡ at + len → t ≡ between at end bytes → IsUtf8 (between at end bytes)
      → takes a (told.text t) (place_at start end true) b → TellsValue takes levels bytes start end a b
  text_told levels len start at end t a b head enough end_is is own taken =
      let s = between at end bytes in
      let p = string_place true len start at end head enough end_is in
      let size = string_length true len start at end head enough end_is in
      let whole = string_whole true len start at end head enough end_is in
      let read = ap (and_then (λ s. give (trees.text s))) (ap (and_then utf8) (string_cut true len start at end head enough end_is) ∙ utf8_reads s (drop end bytes) own) in
      record {
        forwards = p.0;
        within = p.2;
        value = trees.text s;
        read = token_read bytes levels (tokens.Str true len) start at (trees.text s) (drop end bytes) head (λ c. absurd c) read;
        told = told_one takes bytes start end a b true (told.text s) few p.0 p.2 (refl, subst (SpellsText s) whole (text_spelled len (between start at bytes) s s s size refl refl own head.spelled)) (subst (λ u. takes a (told.text u) (place_at start end true) b) is taken);
      }

  pub bytes_told : (levels len start at end : ℕ) (s : List ℕ) (a b : B) → Stands (SpellsToken (tokens.Str false len)) bytes start at → len ≤ length bytes - at → end ≡ at + len → s ≡ between at end bytes
      → takes a (told.bytes s) (place_at start end false) b → TellsValue takes levels bytes start end a b
  bytes_told levels len start at end t a b head enough end_is is taken =
      let s = between at end bytes in
      let p = string_place false len start at end head enough end_is in
      let size = string_length false len start at end head enough end_is in
      let whole = string_whole false len start at end head enough end_is in
      record {
        forwards = p.0;
        within = p.2;
        value = trees.bytes s;
        read = token_read bytes levels (tokens.Str false len) start at (trees.bytes s) (drop end bytes) head (λ c. absurd c) (ap (and_then (λ s. give (trees.bytes s))) (string_cut false len start at end head enough end_is));
        told = told_one takes bytes start end a b false (told.bytes s) few p.0 p.2 (refl, subst (SpellsBytes s) whole (bytes_spelled len (between start at bytes) s s size refl head.spelled)) (subst (λ u. takes a (told.bytes u) (place_at start end false) b) is taken);
      }

  pub key_told : (t : Token) (is_text : Bool) (len start at end : ℕ) (s : List ℕ) (a b : B) → Stands (SpellsToken t) bytes start at → t ≡ tokens.Str is_text len → len ≤ length bytes - at → end ≡ at + len → s ≡ between at end bytes → IsUtf8 (between at end bytes)
      → takes a (key s) (place_at start end is_text) b → TellsKey takes bytes start end a b
  key_told t is_text len start at end u a b stands token_is enough end_is is own taken kind =
      let s = between at end bytes in
      let head = stands_as bytes t (tokens.Str is_text len) start at stands token_is in
      let forwards = head.forwards in
      let within = head.within in
      let p = string_place is_text len start at end head enough end_is in
      let held = drop start bytes in
      let fits : at - start ≤ length held = omega (arith, within, length-drop start bytes) in
      let there = ap (front len) (take_rest held (at - start) ∙ further start at bytes forwards) ∙ string_cut is_text len start at end head enough end_is in
      let cut : CutsText len (take (length held - (at - start)) (drop (at - start) held)) s (drop end bytes) = record {
        front = there;
        utf8 = own;
      } in
      let r : ReadsKey held s (drop end bytes) = key_reads is_text (tokens.Str is_text len) (at - start) len held s (drop end bytes) refl (fits, head.spelled) cut in
      record {
        forwards = p.0;
        within = p.2;
        value = s;
        read = r.read kind;
        told = told_one takes bytes start end a b is_text (key s) few p.0 p.2 (key_mark is_text len start at end head enough end_is own) (subst (λ k. takes a (key k) (place_at start end is_text) b) is taken);
      }

  -- ---- a message

  pub message_told : (levels end : ℕ) (h : Header) (a b : B) → length bytes < 2 ^ 63 → AreOctets bytes → Stands (Head h.capabilities h.len) bytes 0 h.start → levels ≤ 128 → TellsValue takes levels bytes h.start end a b → end - h.start ≡ h.len
      → BeginsTold usual_limits takes bytes a b h
  message_told levels end h a b small octets head few_levels v size =
      let start = h.start in
      let forwards = v.forwards in
      let within = v.within in
      let front = between 0 start bytes in
      let body = between start end bytes in
      let s = (reads_text_keys levels (drop start bytes) (drop end bytes) v.value (octets_rest start bytes octets)).0 v.read in
      let front_size : length front ≡ start = omega (arith, length-between 0 start bytes (omega (arith, forwards, within))) in
      let body_long : length body ≡ h.len = omega (arith, length-between start end bytes within, size) in
      let spelled_size : end - start ≡ length s.0 = omega (arith, ap length s.1, length-append s.0 (drop end bytes), length-drop start bytes, length-drop end bytes, forwards, within) in
      let is_body : s.0 ≡ body = sym (ap (take (end - start)) s.1 ∙ take_at s.0 (drop end bytes) (end - start) (sym spelled_size)) in
      let whole_size : length (front ++ body) ≡ end = omega (arith, length-append front body, front_size, body_long, size, forwards) in
      let message = framed 128 h.capabilities h.len v.value front body head.spelled body_long (more_levels levels 128 body v.value few_levels (subst (λ l. Spells levels v.value l) is_body s.2)) (omega (arith, whole_size, within, small)) in
      let own = body_size 128 h.capabilities v.value (front ++ body) message h.capabilities h.len front [] body head.spelled (append-nil (front ++ body)) in
      record {
        text = front ++ body;
        rest = drop end bytes;
        front = parted 0 start bytes (omega arith) ∙ ap (λ l. front ++ l) (parted start end bytes forwards) ∙ sym (append_assoc front body (drop end bytes));
        tells = record {
          tree = v.value;
          message = message;
          short = omega (arith, own.0, size, within, small);
          body = sym own.0;
          whole = omega (arith, whole_size, size, forwards);
          keys = s.3;
          head = front;
          bytes = body;
          start = sym front_size;
          ends = length-append front body;
          told = v.told;
        };
        same = refl;
      }
