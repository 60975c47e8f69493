use Rattle.std.proofs.Common.{◌≡◌, Some, slice_get, sym, ◌∙◌, ap}
use Rattle.std.specs.Option.{option_copied}
use Rattle.command_lines.proofs.Counted.{three}
use Rattle.command_lines.proofs.words.three_words.Goals as goal

pub returns : goal.returns
returns c =
    let first : slice_get c.args.words.now 0 ≡ Some c.as_slice-first.result.now =
    sym c.get.ensures ∙ ap option_copied c.in_ok-get.was ∙ ap Some (sym c.as_slice-first.ensures) in
    let second : slice_get c.args.words.now 1 ≡ Some c.as_slice-second.result.now =
    sym c.get-2.ensures ∙ ap option_copied c.in_ok-get-2.was ∙ ap Some (sym c.as_slice-second.ensures) in
    let third : slice_get c.args.words.now 2 ≡ Some c.as_slice-third.result.now =
    sym c.get-3.ensures ∙ ap option_copied c.in_ok-get-3.was ∙ ap Some (sym c.as_slice-third.ensures) in
    three c.args.words.now _ _ _ (sym c.len.ensures ∙ c.if-len-ne3.false) first second third
