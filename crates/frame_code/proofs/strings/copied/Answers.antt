-- One text more, which is of bytes.
use Rattle.std.proofs.Common.{◌<◌, ◌∙◌, ◌++◌, ◌∷◌, [], ℕ, List, ap, sym, take}
use Rattle.std.proofs.lemmas.List.{take_more}
use Rattle.std.proofs.lemmas.List.Elements.{All-push, All-same}
use Rattle.std.specs.List.{All}
use Rattle.frame_code.proofs.strings.copied.Goals as goal

abbrev OfBytes : List ℕ → Type 0
OfBytes text = All (λ b. b < 256) text

pub loop-text-preserved : goal.loop-text-preserved
loop-text-preserved c = (
  c.in_ok-push.ensures.ok ∙ ap (λ l. l ++ c.in_ok-bytes_of.field-0 ∷ []) c.loop-text.invariant.0
      ∙ ap (λ x. take c.loop-text.text-index c.args.texts.now ++ x ∷ []) (c.in_ok-bytes_of.ensures.same ∙ c.as_slice.ensures ∙ c.text-item.is)
      ∙ sym (take_more c.args.texts.now c.loop-text.text-index c.text-item.result c.loop-text-test.true),
  All-same OfBytes c.push.new.self _ c.in_ok-push.ensures.ok (All-push OfBytes c.loop-text.copy c.in_ok-bytes_of.field-0 c.loop-text.invariant.1 c.in_ok-bytes_of.ensures.bytes),
)
