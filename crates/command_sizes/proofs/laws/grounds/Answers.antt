use Rattle.command_sizes.proofs.laws.grounds.Goals as goal

pub returns : goal.returns
returns c =
    record {
      texts = record {
        begin = c.texts_begin_once.ensures;
        kept = c.read_modules_can_be_kept.ensures;
        fit = c.interfaces_fit.ensures;
        built_in = c.built_in_fits.ensures;
      };
      trees = record {
        names = c.parsed_names_are_names.ensures;
        spelled = c.trees_can_be_spelled.ensures;
        single_spelled = c.singles_can_be_spelled.ensures;
        shapes = c.trees_are_of_their_shapes.ensures;
        single_shape = c.singles_are_of_their_shape.ensures;
        short = c.made_trees_are_short.ensures;
        single_short = c.singles_are_short.ensures;
      };
      sizes = record {
        objects = c.objects_are_sized.ensures;
        images = c.images_are_sized.ensures;
        short_objects = c.objects_are_short.ensures;
        short_instances = c.instances_are_short.ensures;
        short_images = c.linked_images_are_short.ensures;
      };
      exact = c.passes_are_exact.ensures;
    }
