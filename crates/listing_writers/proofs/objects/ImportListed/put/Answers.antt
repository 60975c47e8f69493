use Rattle.std.proofs.Common.{ℕ, List, flat_map}
use Rattle.std.specs.Prelude.{codes}
use Rattle.listing_rules.specs.Objects.{face_line, use_line}
use Rattle.listing_writers.proofs.Chains.{then_two, of_last}
use Rattle.listing_writers.proofs.objects.ImportListed.put.Goals as goal

pub returns : goal.returns
returns c =
    let i = c.args.self.now in
    then_two c.put_uses.result c.args.out.now c.put_face.new.out c.put_uses.new.out (face_line (codes "IMPORT") i.face) (flat_map (use_line i.face.items) i.used) c.in_ok-put_face.ensures
    (of_last c.put_uses.result (λ (ns : List ℕ). flat_map (use_line i.face.items) ns) c.put_face.new.out c.put_uses.new.out c.as_slice.result.now i.used c.as_slice.ensures c.put_uses.ensures)
