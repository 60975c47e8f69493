use Rattle.std.proofs.Common.{◌≡◌, [], length, slice_get, Some, arith, add-one}
use Rattle.std.proofs.lemmas.List.{length_push}
use Rattle.std.proofs.lemmas.Option.{slice_get-get_or}
use Rattle.std.proofs.lemmas.Slice.Zip.{zip_end, zip_turn}
use Rattle.command_passes.specs.Stops.{stop_case}
use Rattle.command_writes.proofs.Turns.{all_stored, none_stored, one_more, stopped_at}
use Rattle.command_writes.proofs.programs.objects_written.Goals as goal

pub objects-init : goal.objects-init
objects-init g c = (none_stored c.args.bases.now c.args.objects.now _, λ name. omega arith)

pub returns-in-Err-clause-stored : goal.returns-in-Err-clause-stored
returns-in-Err-clause-stored g c =
    let all = c.args.bases.now in
    let files = c.args.objects.now in
    let t = zip_turn all files c.objects.yielded c.into_iter-base-iterator.result c.objects.base-iterator c.next.new.self c.next.result (cc) (cc) c.objects.yielded_by _ c.in-Some.is c.next.ensures.steps in
    let i = length c.objects.yielded in
    let base : slice_get all i ≡ Some c.in-Some.base.now = rw (t.2 []) (slice_get-get_or all i [] t.0) in
    let bytes : slice_get files i ≡ Some c.in-Some.bytes.now = rw (t.3 []) (slice_get-get_or files i [] t.1) in
    stopped_at all files i _ _ _ _ _ (stop_case c.in-Err.why) base bytes c.objects.invariant.1 c.objects.invariant.0
    (rw c.as_slice-in-objects.ensures at (rw c.as_slice-in-objects-2.ensures at c.in-Err.ensures.stored))

pub objects-preserved : goal.objects-preserved
objects-preserved g c =
    let all = c.args.bases.now in
    let files = c.args.objects.now in
    let t = zip_turn all files c.objects.yielded c.into_iter-base-iterator.result c.objects.base-iterator c.next.new.self c.next.result (cc) (cc) c.objects.yielded_by _ c.in-Some.is c.next.ensures.steps in
    let i = length c.objects.yielded in
    let base : slice_get all i ≡ Some c.in-Some.base.now = rw (t.2 []) (slice_get-get_or all i [] t.0) in
    let bytes : slice_get files i ≡ Some c.in-Some.bytes.now = rw (t.3 []) (slice_get-get_or files i [] t.1) in (
      rw (length_push, add-one)
          (one_more all files i _ _ _ _ _ base bytes c.objects.invariant.0
          (rw c.as_slice-in-objects.ensures at (rw c.as_slice-in-objects-2.ensures at c.in-Ok.ensures.stored))),
      λ name. omega (arith, c.objects.invariant.1 name, c.in-Ok.ensures.faults_stay name),
    )

pub returns-clause-stored : goal.returns-clause-stored
returns-clause-stored g c =
    let all = c.args.bases.now in
    let files = c.args.objects.now in
    let t = zip_end all files c.objects.yielded c.into_iter-base-iterator.result c.objects.base-iterator c.next.new.self c.next.result (cc) (cc) c.objects.yielded_by c.in-None.is c.next.ensures.steps in
    all_stored all files (length c.objects.yielded) _ _ (omega arith) c.objects.invariant.0
