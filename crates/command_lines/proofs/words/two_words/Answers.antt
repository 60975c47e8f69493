use Rattle.std.proofs.Common.{◌≡◌, Some, slice_get, sym, ◌∙◌, ap}
use Rattle.std.specs.Option.{option_copied}
use Rattle.command_lines.proofs.Counted.{two}
use Rattle.command_lines.proofs.words.two_words.Goals as goal

pub returns : goal.returns
returns c =
    let first : slice_get c.args.words.now 0 ≡ Some c.as_slice-first.result.now =
    sym c.get.ensures ∙ ap option_copied c.in_ok-get.was ∙ ap Some (sym c.as_slice-first.ensures) in
    let second : slice_get c.args.words.now 1 ≡ Some c.as_slice-second.result.now =
    sym c.get-2.ensures ∙ ap option_copied c.in_ok-get-2.was ∙ ap Some (sym c.as_slice-second.ensures) in
    two c.args.words.now _ _ (sym c.len.ensures ∙ c.if-len-ne2.false) first second
