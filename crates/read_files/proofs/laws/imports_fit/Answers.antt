use Rattle.read_files.proofs.Shapes.{imports_fit}
use Rattle.read_files.proofs.laws.imports_fit.Goals as goal

pub returns : goal.returns
returns c = imports_fit
