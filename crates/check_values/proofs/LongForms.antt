-- What operands of words leave of the rules of LONG numbers, whichever are literals.
use Rattle.std.proofs.Common.{◌≡◌, ℕ, Bool, true, false, Some, None, refl}
use Rattle.check_rules.specs.Typed.{Base, Signed, Unsigned}
use Rattle.check_rules.specs.Operators.{Number, LongNumber, Letter, Truth, Other, long_base, longer}

pub words : (a b : Base) (la lb : Bool) → long_base (Number a) la (Number b) lb ≡ None
words a b true lb = refl
words a b false lb = refl

pub word_and_letter : (a : Base) (la lb : Bool) → long_base (Number a) la Letter lb ≡ None
word_and_letter a true lb = refl
word_and_letter a false lb = refl

pub word_and_truth : (a : Base) (la lb : Bool) → long_base (Number a) la Truth lb ≡ None
word_and_truth a true lb = refl
word_and_truth a false lb = refl

pub word_and_other : (a : Base) (la lb : Bool) → long_base (Number a) la Other lb ≡ None
word_and_other a true lb = refl
word_and_other a false lb = refl

pub ruleset without_longs = (words, word_and_letter, word_and_truth, word_and_other)

pub both_signed : (la lb : Bool) → long_base (LongNumber Signed) la (LongNumber Signed) lb ≡ Some Signed
both_signed true lb = refl
both_signed false lb = refl

pub both_unsigned : (la lb : Bool) → long_base (LongNumber Unsigned) la (LongNumber Unsigned) lb ≡ Some Unsigned
both_unsigned true lb = refl
both_unsigned false lb = refl

pub ruleset longs_of_one_base = (both_signed, both_unsigned)

pub no_longer_words : (a b : Base) (la lb : Bool) → longer (Number a) la (Number b) lb ≡ 0
no_longer_words a b true lb = refl
no_longer_words a b false lb = refl

pub no_longer_letter : (a : Base) (la lb : Bool) → longer (Number a) la Letter lb ≡ 0
no_longer_letter a true lb = refl
no_longer_letter a false lb = refl

pub no_longer_truth : (a : Base) (la lb : Bool) → longer (Number a) la Truth lb ≡ 0
no_longer_truth a true lb = refl
no_longer_truth a false lb = refl

pub no_longer_other : (a : Base) (la lb : Bool) → longer (Number a) la Other lb ≡ 0
no_longer_other a true lb = refl
no_longer_other a false lb = refl

pub ruleset nothing_longer = (no_longer_words, no_longer_letter, no_longer_truth, no_longer_other)
