use Rattle.std.proofs.Common.{◌≡◌, Some, None, sym, subst}
use Rattle.code_forms.specs.declared.instruction.Instruction.{Instruction}
use Rattle.machine_rules.specs.LookUps.{host_of}
use Rattle.machine_calls.specs.declared.host.HostProcedure.{HostProcedure}
use Rattle.machine_calls.specs.Hosting.{writing_in}
use Rattle.machine_calls.specs.Hosts.{host_is}
use Rattle.machine_calls.specs.Linking.{StandsAt}
use Rattle.machine_calls.proofs.Writings.{bound_some, writing_some, writes_at, none_calls, none_linked, none_in_turn, one_writes, one_reads}
use Rattle.machine_calls.proofs.linking.writing_called.Goals as goal

pub bound_to-requires : goal.bound_to-requires
bound_to-requires c =
    bound_some c.args.image.now c.requires.layout c.requires.prepared c.requires.region c.requires.table c.requires.r c.in-CallLink.link
    (subst (λ (i : Instruction). StandsAt c.args.image.now c.requires.table c.requires.r i) c.in-CallLink.is c.requires.at) c.args.instance c.requires.own c.requires.stands

pub host_of-requires : goal.host_of-requires
host_of-requires c =
    writing_some c.args.image.now c.requires.layout c.requires.prepared c.requires.region c.requires.table c.requires.r c.in-CallLink.link
    (subst (λ (i : Instruction). StandsAt c.args.image.now c.requires.table c.requires.r i) c.in-CallLink.is c.requires.at) c.args.instance c.requires.own
    c.bound_to.result c.bound_to.ensures c.requires.stands c.in-Wanted.wanted c.in-Wanted.is

pub returns-in-Write-clause-calls : goal.returns-in-Write-clause-calls
returns-in-Write-clause-calls c there =
    writes_at c.args.image.now there.layout there.prepared there.region there.table there.r c.in-CallLink.link
    (subst (λ (i : Instruction). StandsAt c.args.image.now there.table there.r i) c.in-CallLink.is there.at) c.args.instance there.own
    c.bound_to.result c.bound_to.ensures c.in-Wanted.wanted c.in-Wanted.is
    c.in-Write.writing (subst (λ (h : HostProcedure). host_of c.args.image.now c.in-Wanted.wanted ≡ Some (host_is h)) c.in-Write.is c.host_of.ensures) c.args.turns c.if-turns-eq0.false

pub returns-in_default-clause-is : goal.returns-in_default-clause-is
returns-in_default-clause-is c = none_calls c.args.image.now c.args.instance c.args.turns c.args.instruction c.in_default.not-CallLink

pub returns-in_default-bound_to-clause-is : goal.returns-in_default-bound_to-clause-is
returns-in_default-bound_to-clause-is c =
    subst (λ (i : Instruction). None ≡ writing_in c.args.image.now c.args.instance c.args.turns i) (sym c.in-CallLink.is)
    (none_linked c.args.image.now c.args.instance c.in-CallLink.link c.bound_to.result c.bound_to.ensures c.args.turns c.in_default-bound_to.not-Wanted)

pub returns-then-turns-eq0-clause-is : goal.returns-then-turns-eq0-clause-is
returns-then-turns-eq0-clause-is c =
    subst (λ (i : Instruction). None ≡ writing_in c.args.image.now c.args.instance c.args.turns i) (sym c.in-CallLink.is)
    (none_in_turn c.args.image.now c.args.instance c.in-CallLink.link c.bound_to.result c.bound_to.ensures c.args.turns c.if-turns-eq0.true)

pub returns-in-Write-clause-is : goal.returns-in-Write-clause-is
returns-in-Write-clause-is c =
    subst (λ (i : Instruction). Some c.in-Write.writing ≡ writing_in c.args.image.now c.args.instance c.args.turns i) (sym c.in-CallLink.is)
    (one_writes c.args.image.now c.args.instance c.in-CallLink.link c.bound_to.result c.bound_to.ensures c.args.turns c.in-Wanted.wanted c.host_of.result c.in-Write.writing c.in-Wanted.is c.host_of.ensures
    c.if-turns-eq0.false c.in-Write.is)

pub returns-in-Read-clause-is : goal.returns-in-Read-clause-is
returns-in-Read-clause-is c =
    subst (λ (i : Instruction). None ≡ writing_in c.args.image.now c.args.instance c.args.turns i) (sym c.in-CallLink.is)
    (one_reads c.args.image.now c.args.instance c.in-CallLink.link c.bound_to.result c.bound_to.ensures c.args.turns c.in-Wanted.wanted c.host_of.result c.in-Read.field-0 c.in-Wanted.is c.host_of.ensures
    c.if-turns-eq0.false c.in-Read.is)
