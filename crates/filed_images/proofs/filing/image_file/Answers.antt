use Rattle.std.proofs.Common.{refl}
use Rattle.filed_images.proofs.filing.image_file.Goals as goal

pub write_image-requires : goal.write_image-requires
write_image-requires c = record { fits = c.requires.fits (c.counts_fit.ensures.fit c.if-counts_fit.true); whole = c.requires.whole }

pub returns-else-counts_fit-clause-too_large : goal.returns-else-counts_fit-clause-too_large
returns-else-counts_fit-clause-too_large c = λ other. (λ same. c.counts_fit.ensures.large c.if-counts_fit.false, λ large. refl)
