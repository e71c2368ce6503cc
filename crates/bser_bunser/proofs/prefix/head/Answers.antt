use Rattle.bser_bunser.proofs.Tokens.{headed, last_counted}
use Rattle.bser_bunser.proofs.prefix.head.Goals as goal
use Rattle.std.proofs.Common.{◌≡◌, arith}

pub returns-in-2 : goal.returns-in-2
returns-in-2 c =
    record { head = λ rest h. record { rest = rest; whole = headed c.args.tag 2 rest c.in-2.is; body = h } }

pub returns-in-13 : goal.returns-in-13
returns-in-13 c =
    record { head = λ rest h. record { rest = rest; whole = headed c.args.tag 13 rest c.in-13.is; body = h } }

pub returns-in-0 : goal.returns-in-0
returns-in-0 c =
    record { head = λ rest h. record { rest = rest; whole = headed c.args.tag 0 rest c.in-0.is; body = h } }

pub returns-in_default : goal.returns-in_default
returns-in_default c =
    let one : c.args.tag ≡ 1 = last_counted c.args.tag c.requires (λ e. omega arith) (λ e. omega arith) (λ e. omega arith) in
    record { head = λ rest h. record { rest = rest; whole = headed c.args.tag 1 rest one; body = h } }
