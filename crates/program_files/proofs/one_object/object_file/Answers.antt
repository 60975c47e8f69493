use Rattle.program_files.proofs.Kept.{few_by, fits, whole}
use Rattle.program_files.proofs.one_object.object_file.Goals as goal

pub write_object-requires : goal.write_object-requires
write_object-requires c =
    let few = few_by c.args.object.now c.code.result.now c.has_few_links.result c.requires c.code.ensures.same c.has_few_links.ensures.test c.has_few_links.ensures.few in
    record { fits = fits c.args.object.now c.requires few; whole = whole c.args.object.now c.requires few }
