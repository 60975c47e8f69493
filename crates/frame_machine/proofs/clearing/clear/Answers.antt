use Rattle.std.proofs.Common.{List, Bool, false, length, ap, ◌∙◌}
use Rattle.std.proofs.lemmas.List.{length-replicate}
use Rattle.machine_ready.specs.declared.prepared.Prepared.{Prepared}
use Rattle.frame_machine.proofs.Cleared.{shows_zero, still_many, nothing_started}
use Rattle.frame_machine.proofs.clearing.clear.Goals as goal

pub returns : goal.returns
returns c image ready =
    let p : Prepared = record c.args.parts.now { globals = c.clear_globals.new.globals; started = c.clear_marks.new.started } in
    record {
      ready = record {
        order = ready.order;
        host = ready.host;
        plans = ready.plans;
        links = ready.links;
        all_globals = c.clear_globals.ensures.many ∙ ready.all_globals;
        globals = still_many image c.args.parts.now p ready c.clear_globals.ensures.many c.clear_globals.ensures.zero;
        started = ap (λ (l : List Bool). length l) c.clear_marks.ensures ∙ length-replicate {A = Bool} (length c.args.parts.now.started.items) false ∙ ready.started;
        frame = ready.frame;
        part = ready.part;
        region = ready.region;
        rows = ready.rows;
      };
      zero = shows_zero image c.args.parts.now p ready c.clear_globals.ensures.many c.clear_globals.ensures.zero;
      none = nothing_started c.clear_marks.new.started.items (length c.args.parts.now.started.items) c.clear_marks.ensures;
    }
