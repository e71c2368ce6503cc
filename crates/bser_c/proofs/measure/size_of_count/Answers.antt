-- The first width that holds a count is its least.
use Rattle.std.proofs.Common.{arith, ◌≡◌, ◌^◌, true, false, nat_lt, pos, length, sym, ap}
use Rattle.bser_ser.proofs.Spelling.{least_int8, least_int16, least_int32, least_int64}
use Rattle.bser_c.proofs.measure.size_of_count.Goals as goal

pub returns-then-count-lt128-clause-size : goal.returns-then-count-lt128-clause-size
returns-then-count-lt128-clause-size c =
    let a : nat_lt c.args.count (2 ^ 7) ≡ true = grind (arith, c.if-count-lt128.true) in
    sym (ap length (least_int8 (pos c.args.count) a))

pub returns-then-count-lt32768-clause-size : goal.returns-then-count-lt32768-clause-size
returns-then-count-lt32768-clause-size c =
    let a : nat_lt c.args.count (2 ^ 7) ≡ false = grind (arith, c.if-count-lt128.false) in
    let b : nat_lt c.args.count (2 ^ 15) ≡ true = grind (arith, c.if-count-lt32768.true) in
    sym (ap length (least_int16 (pos c.args.count) a b))

pub returns-then-count-lt2147483648-clause-size : goal.returns-then-count-lt2147483648-clause-size
returns-then-count-lt2147483648-clause-size c =
    let a : nat_lt c.args.count (2 ^ 7) ≡ false = grind (arith, c.if-count-lt128.false) in
    let b : nat_lt c.args.count (2 ^ 15) ≡ false = grind (arith, c.if-count-lt32768.false) in
    let d : nat_lt c.args.count (2 ^ 31) ≡ true = grind (arith, c.if-count-lt2147483648.true) in
    sym (ap length (least_int32 (pos c.args.count) a b d))

pub returns-else-count-lt2147483648-clause-size : goal.returns-else-count-lt2147483648-clause-size
returns-else-count-lt2147483648-clause-size c =
    let a : nat_lt c.args.count (2 ^ 7) ≡ false = grind (arith, c.if-count-lt128.false) in
    let b : nat_lt c.args.count (2 ^ 15) ≡ false = grind (arith, c.if-count-lt32768.false) in
    let d : nat_lt c.args.count (2 ^ 31) ≡ false = grind (arith, c.if-count-lt2147483648.false) in
    sym (ap length (least_int64 (pos c.args.count) a b d))
