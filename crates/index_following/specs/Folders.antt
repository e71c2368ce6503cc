-- What messages were folded to in memory.
use Rattle.watchman_index.specs.Turns.{State}
use Rattle.index_following.specs.declared.folding.Folder.{Folder}

-- the index that was folded, and how many messages that list files
abbrev pub folded : Folder → State
folded f = record { number = f.messages; index = f.index }
