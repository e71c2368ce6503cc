-- The arguments of requests, as Watchman reads them.
use Rattle.std.specs.Prelude.{ℕ, List, [], ◌∷◌, ◌++◌, codes, Option, Result, Ok}
use Rattle.bser_format.specs.Tree.{Tree, text}
use Rattle.bser_format.specs.Written.{slice_tree}
use Rattle.bser_format.specs.declared.errors.Error.{Error}
use Rattle.bser_structs.specs.Entries.{entries_tree, given_entry}
use Rattle.watchman_types.specs.Queries.{Entry, query_entries, number_tree, truth_tree}
use Rattle.watchman_types.specs.declared.requests.subscription.SubscribeRequest.{SubscribeRequest}
use Rattle.watchman_types.specs.declared.requests.subscription.FlushSubscriptionsRequest.{FlushSubscriptionsRequest}
use Rattle.watchman_types.specs.declared.requests.version.Capabilities.{Capabilities}

-- the object of the two lists of capabilities
abbrev pub capabilities_tree : Capabilities → Result Tree Error
capabilities_tree c = entries_tree (
    (codes "optional", slice_tree (λ s. Ok (text s.now)) c.optional.now)
    ∷ (codes "required", slice_tree (λ s. Ok (text s.now)) c.required.now)
    ∷ [])

-- the object of a time in milliseconds
abbrev pub timeout_tree : ℕ → Result Tree Error
timeout_tree n = entries_tree ((codes "sync_timeout", number_tree n) ∷ [])

-- a state's name, and what subscribers get
abbrev pub state_entries : {M : Type 0} → (M → Result Tree Error) → List ℕ → Option M → List Entry
state_entries tree name metadata = (codes "name", Ok (text name)) ∷ given_entry (codes "metadata") tree metadata

-- what is put off or dropped, and the query
abbrev pub subscribe_entries : SubscribeRequest → List Entry
subscribe_entries r =
    given_entry (codes "defer_vcs") truth_tree r.defer_vcs
    ++ given_entry (codes "defer") (λ ss. slice_tree (λ s. Ok (text s.now)) ss.now) r.defer
    ++ given_entry (codes "drop") (λ ss. slice_tree (λ s. Ok (text s.now)) ss.now) r.drop
    ++ query_entries r.query

-- a time in milliseconds, and the names of subscriptions
abbrev pub flush_entries : FlushSubscriptionsRequest → List Entry
flush_entries r = (codes "sync_timeout", number_tree r.sync_timeout)
    ∷ given_entry (codes "subscriptions") (λ ss. slice_tree (λ s. Ok (text s.now)) ss.now) r.subscriptions
