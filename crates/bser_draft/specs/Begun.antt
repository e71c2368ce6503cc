-- A message that is begun.
use Rattle.std.specs.Prelude.{◌≡◌, ◌≤◌, ℕ, pos, false, List, ◌++◌, length, drop, Result, MatchResult}
use Rattle.bser_source.specs.Memory.{bytes_in}
use Rattle.bser_source.specs.declared.memory.InMemory.{InMemory}
use Rattle.bser_ser.specs.Message.{front_of}
use Rattle.bser_ser.specs.Sent.{writer_of, pending_of}
use Rattle.bser_ser.specs.declared.message.TheConstants.{SHORTEST_HEADER}
use Rattle.bser_ser.specs.declared.serializer.Serializer.{Serializer}
use Rattle.bser_draft.specs.declared.containers.OpenContainers.{OpenContainers}
use Rattle.bser_deserializer.specs.declared.deserializer.TheConstants.{LEVELS}
use Rattle.bser_draft.specs.Steps.{outer_of}
use Rattle.bser_draft.specs.ToCome.{IsLeast, Comes, ComesOfAll}

-- all that was put, behind what the writer began with
abbrev pub put_in : Serializer InMemory → List ℕ
put_in s = bytes_in (writer_of s) ++ pending_of s

-- the body so far, behind the gap for a header
abbrev pub body_of : List ℕ → List ℕ
body_of bytes = drop SHORTEST_HEADER bytes

-- the piece was put behind all that was put, or nothing was
abbrev pub Puts : {A E : Type 0} → Serializer InMemory → Serializer InMemory → List ℕ → Result A E → Type 0
Puts old new p r = MatchResult r (λ _. put_in new ≡ put_in old ++ p) (λ _. put_in new ≡ put_in old)

-- the text is the header of a body of this length, and the body
abbrev pub HasBody : List ℕ → List ℕ → Type 0
HasBody text body = text ≡ front_of (pos (length body)) ++ body

-- a gap is there, and what comes of the containers that are open makes a least body of what is behind it
pub record Begun (bytes : List ℕ) (c : OpenContainers) : Type 0 where
  pub gap : SHORTEST_HEADER ≤ length bytes
  pub least : c.is_rough ≡ false → (x y : List ℕ) → Comes c.inner x → ComesOfAll (outer_of c) y → ∥ IsLeast LEVELS (body_of bytes ++ (x ++ y)) ∥₁
