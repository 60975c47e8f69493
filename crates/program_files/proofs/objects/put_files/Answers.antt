use Rattle.std.proofs.Common.{List, take_all, subst, sym}
use Rattle.std.proofs.lemmas.Result.{err_from_is_err_and}
use Rattle.std.specs.List.{AllZip}
use Rattle.object_files.specs.declared.object.Object.{Object}
use Rattle.program_files.specs.Objects.{CanBeFiled, HasFile, IsFaultAmong}
use Rattle.program_files.proofs.Files.{at, first_fault, next_file, none_yet}
use Rattle.program_files.proofs.objects.put_files.Goals as goal

pub loop-object-init : goal.loop-object-init
loop-object-init c = none_yet c.args.objects.now c.args.files.now c.requires.empty

pub loop-object-preserved : goal.loop-object-preserved
loop-object-preserved c =
    next_file c.args.objects.now c.loop-object.object-index c.object-item.result c.loop-object.files c.put_file.new.files c.loop-object-test.true c.object-item.is
    c.loop-object.invariant c.in_ok-put_file.ensures.ok

pub put_file-requires : goal.put_file-requires
put_file-requires c = at CanBeFiled c.args.objects.now c.loop-object.object-index c.object-item.result c.requires.filed c.loop-object-test.true c.object-item.is

pub returns-in_err-put_file-clause-fault : goal.returns-in_err-put_file-clause-fault
returns-in_err-put_file-clause-fault c =
    let p = err_from_is_err_and c.from_residual.result c.from_residual.ensures.1 in
    rw p.1
    (subst (IsFaultAmong c.args.objects.now) (sym p.2)
    (first_fault c.args.objects.now c.loop-object.object-index c.object-item.result c.loop-object.files c.in_err-put_file.field-0.0 c.loop-object-test.true c.object-item.is
    c.loop-object.invariant c.in_err-put_file.ensures.fault))

pub returns-clause-ok : goal.returns-clause-ok
returns-clause-ok c =
    subst (λ (os : List Object). AllZip HasFile os c.loop-object.files) (take_all c.loop-object.object-index c.args.objects.now c.loop-object-test.false)
    c.loop-object.invariant
