use Rattle.std.proofs.Common.{◌∙◌, ap, cond, Some}
use Rattle.std.specs.Map.{lookup}
use Rattle.config_tree.specs.FaceKeys.{same_key}
use Rattle.config_tree.specs.Noted.{Entries}
use Rattle.config_tree.proofs.Noting.{noted_one}
use Rattle.config_tree.proofs.differing.first_seen.Goals as goal

pub returns : goal.returns
returns c =
    noted_one c.insert.new.self.entries c.args.face c.in_ok-key_of.field-0 c.in_ok-key_of.ensures
    (λ q. c.in_ok-insert.ensures.updates.0 q
    ∙ ap (λ (l : Entries). cond (same_key c.in_ok-key_of.field-0 q) (Some c.args.face) (lookup (same_key q) l)) c.new-seen.ensures.empty)
