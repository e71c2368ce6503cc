-- A decimal text is read as its number.
use Rattle.std.proofs.Common.{◌≡◌, true, false, sym, ap, ◌∙◌, arith}
use Rattle.bser_document.specs.Pointer.{is_plain}
use Rattle.bser_document.proofs.Tokens.{plain_decimal, index_read, no_index, no_index_below}
use Rattle.bser_document.proofs.pointer.index_of.Goals as goal

pub returns-then-not-is_plain : goal.returns-then-not-is_plain
returns-then-not-is_plain c n small is =
    let e : true ≡ false = sym (plain_decimal n (omega (arith, small, c.ranges.len.fits)) c.args.token.now is) ∙ ap is_plain (sym c.as_bytes.ensures.value) ∙ sym c.is_plain.ensures ∙ c.if-not-is_plain.true in
    cc

pub returns-then-index-len : goal.returns-then-index-len
returns-then-index-len c =
    let plain : is_plain c.args.token.now ≡ true = ap is_plain (sym c.as_bytes.ensures.value) ∙ sym c.is_plain.ensures ∙ c.if-not-is_plain.false in
    index_read c.args.token.now c.in-Ok.index plain c.in-Ok.ensures.value.0

pub returns-else-index-len : goal.returns-else-index-len
returns-else-index-len c =
    let plain : is_plain c.args.token.now ≡ true = ap is_plain (sym c.as_bytes.ensures.value) ∙ sym c.is_plain.ensures ∙ c.if-not-is_plain.false in
    no_index_below c.args.token.now c.in-Ok.index c.args.len (index_read c.args.token.now c.in-Ok.index plain c.in-Ok.ensures.value.0) c.if-index-len.false

pub returns-in-Err : goal.returns-in-Err
returns-in-Err c n small =
    let plain : is_plain c.args.token.now ≡ true = ap is_plain (sym c.as_bytes.ensures.value) ∙ sym c.is_plain.ensures ∙ c.if-not-is_plain.false in
    no_index c.args.token.now plain c.in-Err.ensures.value.0 n (omega (arith, small, c.ranges.len.fits))
