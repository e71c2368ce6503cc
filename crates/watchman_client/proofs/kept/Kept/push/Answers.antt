use Rattle.std.proofs.Common.{rules, arith, ◌≡◌, ◌≤◌, ◌+◌, ◌-◌, length, map, max, subst}
use Rattle.watchman_client.specs.Kept.{size_of}
use Rattle.watchman_client.proofs.kept.Kept.push.Goals as goal

pub returns-clause-bytes : goal.returns-clause-bytes
returns-clause-bytes c =
    let total : c.self.inside.bytes + length c.args.message.now ≡ size_of (map (λ m. m.items) c.push_back.new.self.items) = c.self-2-1.given.0 in
    let room : c.saturating_sub-room.result ≡ c.args.bounds.kept_bytes - c.self.inside.bytes = search rules in
    let fits : length c.args.message.now ≤ c.saturating_sub-room.result = search rules in
    let old : c.self.inside.bytes ≡ size_of (map (λ m. m.items) c.self.inside.messages.items) = c.self.inside.total in
    let bound : size_of (map (λ m. m.items) c.push_back.new.self.items) ≤ max c.args.bounds.kept_bytes (size_of (map (λ m. m.items) c.self.inside.messages.items)) = omega (arith, total, room, fits, old) in
    let same : map (λ m. m.items) c.self.inside.messages.items ≡ c.args.self.now = search rules in
    subst (λ o. size_of (map (λ m. m.items) c.push_back.new.self.items) ≤ max c.args.bounds.kept_bytes (size_of o)) same bound
