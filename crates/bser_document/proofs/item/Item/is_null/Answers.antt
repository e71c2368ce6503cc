-- The kind tells it.
use Rattle.std.proofs.Common.{sym, ◌∙◌}
use Rattle.bser_document.proofs.Holds.{null_kind, other_kind}
use Rattle.bser_document.proofs.item.Item.is_null.Goals as goal

pub returns-in-Null : goal.returns-in-Null
returns-in-Null c u h = null_kind u (sym (c.kind.ensures u h) ∙ c.in-Null.is)

pub returns-in_default : goal.returns-in_default
returns-in_default c u h = other_kind u λ e. c.in_default.not-Null (c.kind.ensures u h ∙ e)
