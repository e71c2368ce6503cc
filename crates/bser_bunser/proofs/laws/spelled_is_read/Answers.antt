use Rattle.bser_format.specs.declared.errors.Complaint.TheVariants.{NegativeLength}
use Rattle.bser_format.specs.Named as named
use Rattle.bser_bunser.specs.Tagged.{IsInteger, IsLength, IsToken, IsString, IsHead}
use Rattle.bser_bunser.specs.Tokens.{token}
use Rattle.bser_bunser.proofs.Names.{excuses}
use Rattle.bser_bunser.proofs.Readers.{int_there, counted_there, string_there, head_there}
use Rattle.bser_bunser.proofs.Tokens.{token_there}
use Rattle.bser_bunser.proofs.laws.spelled_is_read.Goals as goal

pub returns-clause-integer : goal.returns-clause-integer
returns-clause-integer c = excuses IsInteger named.int (λ b h. (h.0, int_there h.0 b h.1))

pub returns-clause-length : goal.returns-clause-length
returns-clause-length c = excuses IsLength named.size (λ b h. (h.0, counted_there NegativeLength h.0 b h.1))

pub returns-clause-token : goal.returns-clause-token
returns-clause-token c = excuses IsToken token (λ b h. (h.0, token_there h.0 b h.1))

pub returns-clause-string : goal.returns-clause-string
returns-clause-string c = excuses IsString named.string (λ b h. (h.0, string_there h.0 b h.1))

pub returns-clause-head : goal.returns-clause-head
returns-clause-head c = excuses IsHead named.head (λ b h. ((h.0, h.1), head_there h.0 h.1 b h.2))
