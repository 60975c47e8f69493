use Rattle.config_templates.proofs.GoingLaws.{named_more}
use Rattle.config_templates.proofs.so_far.SoFar.add.Goals as goal

pub returns : goal.returns
returns c = record {
  named = named_more c.note.new.known c.args.self.now.parts c.put.new.list c.args.part _ c.own_name.ensures c.in_ok-put.ensures (c.in_ok-note.ensures _ c.requires);
  parts = c.in_ok-put.ensures;
}
