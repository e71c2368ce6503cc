-- What an index can use of a message.
use Rattle.std.specs.Prelude.{◌≡◌, ℕ, List, Some, None}
use Rattle.watchman_types.specs.declared.query.QueryResult.{QueryResult}
use Rattle.watchman_types.specs.declared.subscription.FilesChanged.{FilesChanged}
use Rattle.watchman_index.specs.declared.changes.Changes.{Changes}
use Rattle.watchman_index.specs.declared.listed.Listed.{Listed}
use Rattle.watchman_index.specs.Lists.{HasListed}

-- the changes are those of an answer to a query
pub record IsOfQuery (answer : QueryResult (List ℕ) Listed) (c : Changes) : Type 0 where
  pub root : c.root ≡ answer.root
  pub subscription : c.subscription ≡ None
  pub clock : c.clock ≡ answer.clock
  pub since : c.since ≡ None
  pub fresh : c.is_fresh_instance ≡ answer.is_fresh_instance
  pub files : HasListed answer.files.items c.files

-- the changes are those of a message of a subscription
pub record IsOfSubscription (told : FilesChanged (List ℕ) Listed) (c : Changes) : Type 0 where
  pub root : c.root ≡ told.root
  pub subscription : c.subscription ≡ Some told.subscription
  pub clock : c.clock ≡ told.clock
  pub since : c.since ≡ told.since
  pub fresh : c.is_fresh_instance ≡ told.is_fresh_instance
  pub files : HasListed told.files.items c.files
