use Rattle.std.proofs.Common.{List, flat_map}
use Rattle.std.specs.Prelude.{codes}
use Rattle.mesa_types.specs.declared.faces.Pair.{Pair}
use Rattle.listing_rules.specs.Objects.{face_line, pair_line}
use Rattle.listing_writers.proofs.Chains.{then_two, of_last}
use Rattle.listing_writers.proofs.objects.ExportListed.put.Goals as goal

pub returns : goal.returns
returns c =
    let e = c.args.self.now in
    then_two c.put_pairs.result c.args.out.now c.put_face.new.out c.put_pairs.new.out (face_line (codes "EXPORT") e.face) (flat_map (pair_line e.face.items) e.given) c.in_ok-put_face.ensures
    (of_last c.put_pairs.result (λ (ps : List Pair). flat_map (pair_line e.face.items) ps) c.put_face.new.out c.put_pairs.new.out c.as_slice.result.now e.given c.as_slice.ensures c.put_pairs.ensures)
