-- What is refused for its stamp, checking refuses before it looks at any interface.
use Rattle.std.proofs.Common.{◌≡◌, ℕ, List, map, Ok, Err, ap}
use Rattle.syntax_trees.specs.Syntax as s
use Rattle.interface_records.specs.PlainTypes.{PlainInterface, interface_of, plain_interface}
use Rattle.check_rules.specs.Steps.{Checked, Fault, and_then}
use Rattle.check_rules.specs.CheckedModule.{checked, checked_definitions, program_by, interface_by}
use Rattle.checked_texts.specs.Asked.{Program, Interface, fits}
use Rattle.checked_texts.specs.Laws.{StampsNeedNoInterface}

same_error : (a b : Fault) → ◌≡◌ {A = Checked (Unit {0})} (Err a) (Err b) → a ≡ b
same_error a b e = cc

done : (b : Fault) → ◌≡◌ {A = Checked (Unit {0})} (Ok tt) (Err b) → ⊥
done b e = cc

by_program : (m : s.Module) (is : List PlainInterface) (k : s.ModuleKind) (fault : Fault) → fits Program k ≡ Err fault → program_by m is k ≡ Err fault
by_program m is (s.Program p imports exports opens inner) fault e = absurd (done fault e)
by_program m is (s.Interface p opens defs) fault e = ap (λ f. Err f) (same_error _ fault e)

by_interface : (m : s.Module) (stamp : ℕ) (is : List PlainInterface) (k : s.ModuleKind) (fault : Fault) → fits (Interface stamp) k ≡ Err fault
    → interface_by m stamp is k ≡ Err fault
by_interface m stamp is (s.Program p imports exports opens inner) fault e = ap (λ f. Err f) (same_error _ fault e)
by_interface m stamp is (s.Interface p opens defs) fault e = absurd (done fault e)

pub no_interface : StampsNeedNoInterface
unfolding checked checked_definitions
no_interface Program m is fault e = by_program m (map plain_interface is) m.kind fault e
no_interface (Interface stamp) m is fault e =
    ap (λ (r : Checked PlainInterface). and_then r (λ i. Ok (interface_of i))) (by_interface m stamp (map plain_interface is) m.kind fault e)
