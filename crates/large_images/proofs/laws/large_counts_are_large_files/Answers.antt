use Rattle.large_images.proofs.Lengths.{large_counts_are_large_files}
use Rattle.large_images.proofs.laws.large_counts_are_large_files.Goals as goal

pub returns : goal.returns
returns c = large_counts_are_large_files
