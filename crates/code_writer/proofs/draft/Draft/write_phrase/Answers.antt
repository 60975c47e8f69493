use Rattle.std.proofs.Common.{◌≡◌, ◌+◌, ◌∙◌, ap, refl}
use Rattle.code_trees.specs.Plain.{plain_arms, off_in_arms}
use Rattle.code_blocks.specs.Writing.{arms_size, regions}
use Rattle.code_writer.proofs.Regions.{fits_phrase, adds_phrase, with_arms_of}
use Rattle.code_writer.proofs.draft.Draft.write_phrase.Goals as goal

pub write_arms-requires-clause-sizes : goal.write_arms-requires-clause-sizes
write_arms-requires-clause-sizes c = ap off_in_arms c.as_slice.ensures ∙ c.requires.sizes

pub write_arms-requires-clause-fits : goal.write_arms-requires-clause-fits
write_arms-requires-clause-fits c =
    fits_phrase (plain_arms c.args.pending.arms.now) (plain_arms c.as_slice.result.now) c.args.pending.around c.in_ok-around.around c.args.at c.args.self.now
    (record { entries = c.args.self.now.entries; scopes = c.enter.new.scopes; phrases = c.args.self.now.phrases })
    (ap plain_arms c.as_slice.ensures) refl c.in_ok-around.ensures.grows c.in_ok-around.ensures.there c.in_ok-around.ensures.inner
    c.requires.room c.requires.shallow c.requires.held

pub returns-clause-phrase : goal.returns-clause-phrase
returns-clause-phrase c =
    let same : plain_arms c.as_slice.result.now ≡ plain_arms c.args.pending.arms.now = ap plain_arms c.as_slice.ensures in (
      ap (with_arms_of c.args.pending.from c.args.pending.upto) (c.in_ok-arms.ensures.made.0 ∙ ap (λ x. regions x c.args.at) same),
      c.in_ok-arms.ensures.made.1 ∙ ap (λ x. c.args.at + arms_size x) same,
    )

pub returns-clause-adds : goal.returns-clause-adds
returns-clause-adds c =
    adds_phrase (plain_arms c.args.pending.arms.now) (plain_arms c.as_slice.result.now) c.args.pending.around c.in_ok-around.around c.args.at c.args.self.now
    (record { entries = c.args.self.now.entries; scopes = c.enter.new.scopes; phrases = c.args.self.now.phrases }) c.write_arms.new.self
    (ap plain_arms c.as_slice.ensures) refl refl c.in_ok-around.ensures.grows c.requires.held c.in_ok-around.ensures.inner c.in_ok-arms.ensures.adds
