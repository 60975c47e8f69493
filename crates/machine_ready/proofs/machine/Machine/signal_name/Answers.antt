use Rattle.std.proofs.Common.{Some, option_map, sym, ap, ◌∙◌}
use Rattle.std.proofs.lemmas.Option.{slice_get_within, get_or_from_slice_get}
use Rattle.code_forms.specs.declared.module_code.CodeSignal.{CodeSignal}
use Rattle.machine_ready.proofs.Reading.{signal_read, instance_there}
use Rattle.machine_ready.proofs.machine.Machine.signal_name.Goals as goal

pub code_of-code-requires-clause-there : goal.code_of-code-requires-clause-there
code_of-code-requires-clause-there c = instance_there c.args.self.now c.self.inside.image c.args.instance c.args.signal c.self.view_is c.requires

pub bounds-as_slice-signal : goal.bounds-as_slice-signal
bounds-as_slice-signal c =
    let s = signal_read c.args.self.now c.self.inside.image c.args.instance c.args.signal c.code_of-code.result.now c.as_slice.result.now c.self.view_is c.requires c.code_of-code.ensures c.as_slice.ensures in
    slice_get_within c.as_slice.result.now c.args.signal s.0 s.1

pub returns : goal.returns
returns c =
    let s = signal_read c.args.self.now c.self.inside.image c.args.instance c.args.signal c.code_of-code.result.now c.as_slice.result.now c.self.view_is c.requires c.code_of-code.ensures c.as_slice.ensures in
    ap (option_map (λ (x : CodeSignal). x.name)) s.2
    ∙ ap (λ (x : CodeSignal). Some x.name) (sym (get_or_from_slice_get c.as_slice.result.now c.args.signal s.0 c.index-as_slice-signal.result s.1))
