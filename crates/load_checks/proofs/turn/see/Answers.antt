use Rattle.std.proofs.Common.{ap, ◌∙◌, arith}
use Rattle.object_files.specs.declared.image.Image.{Image}
use Rattle.load_checks.specs.Index.{noted_offers}
use Rattle.load_checks.specs.Turns.{part_of}
use Rattle.load_checks.proofs.Noting.{holds_more}
use Rattle.load_checks.proofs.Turning.{longer, one_longer}
use Rattle.load_checks.proofs.turn.see.Goals as goal

pub returns : goal.returns
returns c =
    let p = part_of c.args.turn.now in
    let s = c.args.seen.now in
    let r = c.requires.seen in
    let instances = longer (λ (i : Image). i.instances) p s.instances c.len.result r.instances_are c.len.ensures in
    let modules = longer (λ (i : Image). i.modules) p s.modules c.len-2.result r.modules_are c.len-2.ensures in
    record {
      images_are = one_longer p s.images r.images_are;
      instances_are = instances;
      modules_are = modules;
      few_instances = omega (arith, c.requires.room.instances, r.instances_are, c.len.ensures);
      few_modules = omega (arith, c.requires.room.modules, r.modules_are, c.len-2.ensures);
      holds = λ k.
          c.in_ok-note_image.ensures k ∙ ap (noted_offers k s.images s.instances p.image p.image.offered) (r.holds k)
          ∙ holds_more k p s.images s.instances r.images_are r.instances_are;
    }
