-- Values by their words: a word, a string, one value, none.
use Rattle.std.proofs.Common.{◌≡◌, ℕ, zero, suc, ◌<◌, List, [], ◌∷◌, length, refl, sym, ap, ◌∙◌, arith}
use Rattle.mesa_types.specs.Typed.{Kind, Ordinal, Longs, Texts, NoKinds}
use Rattle.mesa_types.specs.Shapes.{words_in, words_in_all, one}
use Rattle.mesa_types.specs.Sound.{a_word, a_long}
use Rattle.mesa_types.specs.Longs.{more_of, less_of, two_words, long_of}
use Rattle.mesa_types.proofs.LongLaws.{more_small, less_small, joined, long_small, more_again, less_again}
use Rattle.source_meaning.specs.Value.{Word, Long, Text, Values, NoValues}
use Rattle.source_meaning.specs.Value as value
use Rattle.agreement_rules.specs.Layout.{Strings, Small, slots_of, value_at, values_at, Show}
use Rattle.agreement_rules.proofs.Values.{small_words}

-- a value of one word
pub record AWord (vs : Values) (ws : List ℕ) : Type 0 where
  pub word : ℕ
  pub is : vs ≡ value.one (Word word)
  pub words : ws ≡ word ∷ []
  pub small : word < 65536

first_small : (w : ℕ) (ws : List ℕ) → Small (slots_of (w ∷ ws)) → w < 65536
unfolding slots_of
first_small w ws s = s 0

word_by : (texts : Strings) (vs : Values) (ws : List ℕ) → length ws ≡ 1 → vs ≡ values_at texts (slots_of ws) 0 (one Ordinal) → Small (slots_of ws) → AWord vs ws
unfolding values_at value_at one value.one slots_of
word_by texts vs [] l e s = absurd (omega (arith, l))
word_by texts vs (w ∷ []) l e s = record { word = w; is = e; words = refl; small = s 0 }
word_by texts vs (w ∷ x ∷ ws) l e s = absurd (omega (arith, l))

pub the_word : (texts : Strings) (vs : Values) (ws : List ℕ) → Show texts a_word vs ws → AWord vs ws
unfolding a_word one words_in_all words_in
the_word texts vs ws h = word_by texts vs ws (let e = h.size in omega (arith, e)) h.worth h.small

pub show_word : (texts : Strings) (x : ℕ) → x < 65536 → Show texts a_word (value.one (Word x)) (x ∷ [])
unfolding a_word one words_in_all words_in values_at value_at value.one slots_of
show_word texts x lt = record {
  size = refl;
  worth = refl;
  small = by;
}
  where
    by : Small (slots_of (x ∷ []))
    by zero = lt
    by (suc n) = none n
      where
        none : (n : ℕ) → slots_of [] n < 65536
        none zero = omega arith
        none (suc n) = omega arith

-- a LONG number, by its two words
pub record ALong (vs : Values) (ws : List ℕ) : Type 0 where
  pub long : ℕ
  pub is : vs ≡ value.one (Long long)
  pub words : ws ≡ two_words long
  pub small : long < 4294967296

two_again : (more less : ℕ) → less < 65536 → more ∷ less ∷ [] ≡ two_words (long_of more less)
unfolding two_words
two_again more less l =
    ap (λ x. x ∷ less ∷ []) (sym (more_again more less l)) ∙ ap (λ y. more_of (long_of more less) ∷ y ∷ []) (sym (less_again more less l))

long_by : (texts : Strings) (vs : Values) (ws : List ℕ) → length ws ≡ 2 → vs ≡ values_at texts (slots_of ws) 0 (one Longs) → Small (slots_of ws) → ALong vs ws
unfolding values_at value_at one value.one slots_of
long_by texts vs [] l e s = absurd (omega (arith, l))
long_by texts vs (w ∷ []) l e s = absurd (omega (arith, l))
long_by texts vs (w ∷ x ∷ []) l e s =
    record { long = long_of w x; is = e; words = two_again w x (s 1); small = long_small w x (s 0) (s 1) }
long_by texts vs (w ∷ x ∷ y ∷ ws) l e s = absurd (omega (arith, l))

pub the_long : (texts : Strings) (vs : Values) (ws : List ℕ) → Show texts a_long vs ws → ALong vs ws
unfolding a_long one words_in_all words_in
the_long texts vs ws h = long_by texts vs ws (let e = h.size in omega (arith, e)) h.worth h.small

two_small : (x : ℕ) → x < 4294967296 → Small (slots_of (two_words x))
unfolding two_words slots_of
two_small x lt = small_words (more_of x ∷ less_of x ∷ []) (λ n l. each n l)
  where
    each : (n : ℕ) → n < 2 → slots_of (more_of x ∷ less_of x ∷ []) n < 65536
    each zero l = more_small x lt
    each (suc zero) l = less_small x
    each (suc (suc n)) l = absurd (omega (arith, l))

pub show_long : (texts : Strings) (x : ℕ) → x < 4294967296 → Show texts a_long (value.one (Long x)) (two_words x)
unfolding a_long one words_in_all words_in values_at value_at value.one slots_of two_words
show_long texts x lt = record { size = refl; worth = ap (λ n. value.one (Long n)) (sym (joined x)); small = two_small x lt }

-- a string
pub record AText (texts : Strings) (vs : Values) (ws : List ℕ) : Type 0 where
  pub first : ℕ
  pub second : ℕ
  pub is : vs ≡ value.one (Text (texts first second))
  pub words : ws ≡ first ∷ second ∷ []

text_by : (texts : Strings) (vs : Values) (ws : List ℕ) → length ws ≡ 2 → vs ≡ values_at texts (slots_of ws) 0 (one Texts) → AText texts vs ws
unfolding values_at value_at one value.one slots_of
text_by texts vs [] l e = absurd (omega (arith, l))
text_by texts vs (w ∷ []) l e = absurd (omega (arith, l))
text_by texts vs (w ∷ x ∷ []) l e = record { first = w; second = x; is = e; words = refl }
text_by texts vs (w ∷ x ∷ y ∷ ws) l e = absurd (omega (arith, l))

pub the_text : (texts : Strings) (vs : Values) (ws : List ℕ) → Show texts (one Texts) vs ws → AText texts vs ws
unfolding one words_in_all words_in
the_text texts vs ws h = text_by texts vs ws (let e = h.size in omega (arith, e)) h.worth

-- one value of any kind
pub the_value : (texts : Strings) (k : Kind) (vs : Values) (ws : List ℕ) → Show texts (one k) vs ws → vs ≡ value.one (value_at texts (slots_of ws) 0 k)
unfolding values_at one value.one
the_value texts k vs ws h = h.worth

pub show_none : (texts : Strings) → Show texts NoKinds NoValues []
unfolding words_in_all values_at slots_of
show_none texts = record { size = refl; worth = refl; small = by }
  where
    by : Small (slots_of [])
    by zero = omega arith
    by (suc n) = omega arith
