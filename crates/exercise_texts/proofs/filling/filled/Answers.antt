use Rattle.std.proofs.Common.{sym}
use Rattle.exercise_texts.proofs.InterfaceBytes.{step_bytes, sig_bytes}
use Rattle.exercise_texts.proofs.FilesPut.{all_put}
use Rattle.exercise_texts.proofs.filling.filled.Goals as goal

pub returns : goal.returns
returns c =
    all_put c.args.links _ _ _ _ _ _ _ _ _ _ _ _ _ _ _
    c.new.ensures (sym step_bytes) (sym sig_bytes) c.as_bytes.ensures.value c.as_bytes-2.ensures.value c.as_bytes-3.ensures.value
    c.as_slice.ensures c.in_ok-chain.ensures c.new-folder.ensures
    c.in_ok-insert.ensures.ok c.in_ok-insert-2.ensures.ok c.in_ok-insert-3.ensures.ok c.in_ok-insert-4.ensures.ok c.in_ok-insert-5.ensures.ok c.in_ok-insert-6.ensures.ok
