-- The containers that are open around the innermost one, the outermost first.
use Rattle.std.specs.Prelude.{List, ◌++◌, take}
use Rattle.bser_events.specs.declared.frame.Frame.{Frame}
use Rattle.bser_events.specs.declared.outermost.Outermost.{Outermost}

-- the outermost ones
abbrev pub outermost_frames : Outermost → List Frame
outermost_frames o = take o.count o.frames

-- the outermost ones, and then the others
abbrev pub around : Outermost → List Frame → List Frame
around o fs = outermost_frames o ++ fs
