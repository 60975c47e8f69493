use Rattle.config_templates.proofs.MentionLaws.{had, noted}
use Rattle.config_templates.proofs.mentioned.Mentioned.mention.Goals as goal

pub returns-then-is_known : goal.returns-then-is_known
returns-then-is_known c = had c.args.self.now c.args.name.now _ c.requires c.is_known.ensures c.if-is_known.true

pub returns : goal.returns
returns c = noted c.args.self.now (record { known = c.note.new.known; first = c.push.new.self }) c.args.name _ c.requires c.is_known.ensures c.if-is_known.false c.in_ok-note.ensures c.in_ok-push.ensures.items
