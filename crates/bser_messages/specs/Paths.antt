-- What callers see of a path.
use Rattle.std.specs.Prelude.{List}
use Rattle.bser_messages.specs.declared.path.Path.{Path}
use Rattle.bser_messages.specs.declared.path.Step.{Step}

-- the steps, the outermost first
abbrev pub steps_of : Path → List Step
steps_of p = p.steps.items
