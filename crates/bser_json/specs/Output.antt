-- What the error of a text says of its writer.
use Rattle.std.specs.Prelude.{◌≡◌, ℕ, ◌<◌}
use Rattle.bser_views.specs.declared.print_error.PrintError.{PrintError}
use Rattle.bser_views.specs.declared.print_error.PrintError.TheVariants as errors

-- the error is the writer's where it counted a failure, and else want of memory
abbrev pub IsAccounted : PrintError → ℕ → Type 0
IsAccounted (errors.Output fault) failures = 0 < failures
IsAccounted (errors.Memory e) failures = failures ≡ 0
