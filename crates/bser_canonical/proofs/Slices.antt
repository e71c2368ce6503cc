-- A message in a slice that was read, as the tree of its value, and its message in memory.
use Rattle.std.proofs.Common.{◌≡◌, ◌<◌, ◌≤◌, ◌^◌, ℕ, ℤ, pos, List, length, Ok, inl, inr, refl, sym, ap, subst, ◌∙◌, arith}
use Rattle.bser_format.specs.Content.{Content, value}
use Rattle.bser_format.specs.Tree.{Tree}
use Rattle.bser_format.specs.ReadsAny.{reads_value}
use Rattle.bser_format.specs.Canonical.{canonical_body, canonical_message, least_count, least_integer, least_size}
use Rattle.bser_format.specs.Grammar.{IntSize, int8, int16, int32, int64, int_bytes}
use Rattle.bser_format.specs.declared.errors.Error.{Error}
use Rattle.bser_format.specs.declared.errors.Error.TheVariants.{OutOfMemory, Io}
use Rattle.bser_format.proofs.Canon.{length-int_bytes}
use Rattle.bser_format.proofs.Lengths.{length-message}
use Rattle.bser_source.specs.Device.{counts_to}
use Rattle.bser_ser.specs.Message.{IsUnmeasured, Missed}
use Rattle.bser_ser.specs.Sent.{IsExcuse}
use Rattle.bser_ser.specs.Stopped.{Tells}
use Rattle.bser_format.specs.Compact.{fold_templates}
use Rattle.bser_messages.specs.Messages.{BeginsWith}
use Rattle.bser_value.specs.ValueView.{tree_of, HoldsValue}
use Rattle.bser_value.specs.declared.value.Value.{Value}
use Rattle.bser_document.specs.declared.document.Document.{Document}
use Rattle.bser_document.specs.DocumentView.{HoldsDocument, value_of}
use Rattle.bser_canonical.specs.Canon.{IsReadAs, canonical}
use Rattle.bser_canonical.specs.Slices.{LiesInSlice, ReadsTree, RefusesSliceRewriting, RewritesToSize, RewroteSlice, in_memory}
use Rattle.bser_canonical.specs.declared.slice.RewriteError.{RewriteError}
use Rattle.bser_canonical.specs.declared.slice.RewriteError.TheVariants.{Failed}
use Rattle.bser_canonical.proofs.Writing.{value_read, document_read}

-- what was read as a value of a type was read as the tree of that value
begins_as : {A : Type 0} (holds : A → Content → Type 0) (tree : A → Tree) (bytes : List ℕ) (v : A) → ((c : Content) → holds v c → IsReadAs (tree v) c) → BeginsWith 128 reads_value holds bytes v → ReadsTree bytes (tree v)
begins_as holds tree bytes v is h = record { text = h.text; rest = h.rest; front = h.front; content = h.content; message = h.message; held = is h.content h.held }

pub read_document : (d : Document) (bytes : List ℕ) → BeginsWith 128 reads_value HoldsDocument bytes d → ReadsTree bytes (value_of d)
read_document d bytes h = begins_as HoldsDocument value_of bytes d (document_read d) h

pub read_as_value : (v : Value) (bytes : List ℕ) → BeginsWith 128 reads_value HoldsValue bytes v → ReadsTree bytes (tree_of v)
read_as_value v bytes h = begins_as HoldsValue tree_of bytes v (value_read v) h

-- a document was read, and its message is in memory
pub rewrote_document : (d : Document) (bytes message : List ℕ) → BeginsWith 128 reads_value HoldsDocument bytes d → message ≡ canonical_message (value_of d) → length (canonical_body (value_of d)) < 2 ^ 63 → RewroteSlice canonical bytes message
rewrote_document d bytes message h written short = record { tree = value_of d; read = read_document d bytes h; written = written; short = short }

-- the same of a value
pub rewrote_value : (v : Value) (bytes message : List ℕ) → BeginsWith 128 reads_value HoldsValue bytes v → message ≡ canonical_message (fold_templates (tree_of v)) → length (canonical_body (fold_templates (tree_of v))) < 2 ^ 63 → RewroteSlice fold_templates bytes message
rewrote_value v bytes message h written short = record { tree = tree_of v; read = read_as_value v bytes h; written = written; short = short }

-- ---- what is too long

sized : (s : IntSize) (v : ℤ) → length (int_bytes s v) ≤ 9
sized int8 v = omega (arith, length-int_bytes int8 v)
sized int16 v = omega (arith, length-int_bytes int16 v)
sized int32 v = omega (arith, length-int_bytes int32 v)
sized int64 v = omega (arith, length-int_bytes int64 v)

short_count : (n : ℕ) → length (least_count n) ≤ 9
unfolding least_integer
short_count n = sized (least_size (pos n)) (pos n)

-- a count of bytes up to the greatest one is exact where the body is short
pub counted : (t : Tree) (n : ℕ) → n ≡ counts_to 0 (length (canonical_message t)) → length (canonical_body t) < 2 ^ 63 → n ≡ length (canonical_message t)
counted t n is short = omega (arith, is, short, length-message t, short_count (length (canonical_body t)))

pub document_size : (d : Document) (bytes : List ℕ) (before n : ℕ) → BeginsWith 128 reads_value HoldsDocument bytes d → before ≡ 0 → n ≡ counts_to before (length (canonical_message (value_of d))) → length (canonical_body (value_of d)) < 2 ^ 63 → RewritesToSize canonical bytes n
document_size d bytes before n h none is short = (value_of d, read_document d bytes h, counted (value_of d) n (is ∙ ap (λ k. counts_to k (length (canonical_message (value_of d)))) none) short)

pub value_size : (v : Value) (bytes message : List ℕ) (n : ℕ) → BeginsWith 128 reads_value HoldsValue bytes v → message ≡ canonical_message (fold_templates (tree_of v)) → n ≡ length message → RewritesToSize fold_templates bytes n
value_size v bytes message n h written is = (tree_of v, read_as_value v bytes h, is ∙ ap length written)

-- a message that was measured fits as its measure does
pub document_fits : (d : Document) (message : List ℕ) (n most : ℕ) → n ≡ counts_to 0 (length (canonical_message (value_of d))) → length (canonical_body (value_of d)) < 2 ^ 63 → message ≡ canonical_message (value_of d) → n ≤ most → length message ≤ most
document_fits d message n most is short written fits = omega (arith, counted (value_of d) n is short, ap length written, fits)

-- ---- what is not made

-- an excuse is want of memory there
excused : (e : Error) → IsExcuse e → in_memory e ≡ OutOfMemory
excused OutOfMemory h = refl
excused (Io e) h = refl
excused _ h = absurd h

unmeasured : (t : Tree) (e : Error) → IsUnmeasured (Ok t) e → IsUnmeasured (Ok t) (in_memory e)
unmeasured t e (inl is) = inl (ap in_memory is)
unmeasured t e (inr many) = inr (ap in_memory many.0, many.1)

missed_there : {S : Type 0} (sink : Tells S) (t : Tree) (old new : S) (e : Error) → Missed sink (Ok t) old new e → IsUnmeasured (Ok t) (in_memory e)
missed_there sink t old new e (inl m) = unmeasured t e m.0
missed_there sink t old new e (inr broke) = inl (excused e broke.excuse)

pub document_not_made : {S : Type 0} (sink : Tells S) (d : Document) (bytes : List ℕ) (old new : S) (e : Error) (u : RewriteError) → BeginsWith 128 reads_value HoldsDocument bytes d → Missed sink (Ok (value_of d)) old new e → u ≡ Failed (in_memory e) → RefusesSliceRewriting canonical bytes u
document_not_made sink d bytes old new e u h m is = subst (RefusesSliceRewriting canonical bytes) (sym is) (value_of d, read_document d bytes h, missed_there sink (value_of d) old new e m)

pub value_not_made : {S : Type 0} (sink : Tells S) (v : Value) (bytes : List ℕ) (old new : S) (e : Error) (u : RewriteError) → BeginsWith 128 reads_value HoldsValue bytes v → Missed sink (Ok (fold_templates (tree_of v))) old new e → u ≡ Failed (in_memory e) → RefusesSliceRewriting fold_templates bytes u
value_not_made sink v bytes old new e u h m is = subst (RefusesSliceRewriting fold_templates bytes) (sym is) (tree_of v, read_as_value v bytes h, missed_there sink (fold_templates (tree_of v)) old new e m)

-- a document is there, and no memory for its value
pub unaffordable : (d : Document) (bytes : List ℕ) → BeginsWith 128 reads_value HoldsDocument bytes d → RefusesSliceRewriting fold_templates bytes (Failed OutOfMemory)
unaffordable d bytes h = (value_of d, read_document d bytes h, inl refl)

-- such an error has no place
pub failed_lies : (len most : ℕ) (e : Error) (u : RewriteError) → u ≡ Failed e → LiesInSlice len most u
failed_lies len most e u is = subst (LiesInSlice len most) (sym is) tt
