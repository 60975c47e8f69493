use Rattle.check_state.specs.Views.{around, state}
use Rattle.check_programs.proofs.ValueCases.{data_of_procedure, data_of_signal, data_of_error, procedure_of_data, procedure_of_signal, procedure_of_error, procedure_value}
use Rattle.check_programs.proofs.values.value_of.Goals as goal

pub returns-in-Procedure-declared : goal.returns-in-Procedure-declared
returns-in-Procedure-declared c =
    rw (c.in-Data.is, c.in-Procedure-declared.is) (data_of_procedure (around c.args.around.now) c.args.one.now.names (state c.args.state.now) _ _ _)

pub returns-in-Signal-declared : goal.returns-in-Signal-declared
returns-in-Signal-declared c =
    rw (c.in-Data.is, c.in-Signal-declared.is) (data_of_signal (around c.args.around.now) c.args.one.now.names (state c.args.state.now) _ _)

pub returns-in-Error : goal.returns-in-Error
returns-in-Error c = rw (c.in-Data.is, c.in-Error.is) (data_of_error (around c.args.around.now) c.args.one.now.names (state c.args.state.now) _ _)

pub returns-in_ok-procedure-in-Procedure-declared-2 : goal.returns-in_ok-procedure-in-Procedure-declared-2
unfolding around
returns-in_ok-procedure-in-Procedure-declared-2 c =
    rw (c.in-Procedure.is, c.in-Procedure-declared-2.is)
    (procedure_value (around c.args.around.now) c.args.one.now.names (state c.args.state.now) _ _ _ _ _ c.in_ok-procedure-in-Procedure-declared-2.procedure (state c.procedure.new.state)
    (rw c.as_slice-names.ensures at c.in_ok-procedure-in-Procedure-declared-2.ensures))

pub returns-in-Data-declared-2 : goal.returns-in-Data-declared-2
returns-in-Data-declared-2 c =
    rw (c.in-Procedure.is, c.in-Data-declared-2.is) (procedure_of_data (around c.args.around.now) c.args.one.now.names (state c.args.state.now) _ _ _ _)

pub returns-in-Signal-declared-2 : goal.returns-in-Signal-declared-2
returns-in-Signal-declared-2 c =
    rw (c.in-Procedure.is, c.in-Signal-declared-2.is) (procedure_of_signal (around c.args.around.now) c.args.one.now.names (state c.args.state.now) _ _ _ _)

pub returns-in-Error-declared : goal.returns-in-Error-declared
returns-in-Error-declared c =
    rw (c.in-Procedure.is, c.in-Error-declared.is) (procedure_of_error (around c.args.around.now) c.args.one.now.names (state c.args.state.now) _ _ _ _)
