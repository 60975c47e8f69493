-- Each text is walked in one way, and to one answer.
use Rattle.std.proofs.Common.{◌≡◌, ◌≢◌, ℕ, zero, suc, ◌+◌, ◌-◌, ◌<◌, ◌≤◌, Bool, true, false, nat_lt, List, [], ◌∷◌, ◌++◌, length, drop, Option, Some, None, ◌⊎◌, inl, inr, arith, refl, sym, ap, subst, ◌∙◌, if◌then◌else◌}
use Rattle.std.specs.Prelude.{Result, Ok, Err, IfOk, IfErr, MatchResult}
use Rattle.std.proofs.lemmas.Bool.{cases_lt, cond-true, cond-false, lt-ltb, le-ltb}
use Rattle.std.proofs.lemmas.List.{length-drop, drop_all}
use Rattle.mesa_base.specs.declared.place.Place.{Place}
use Rattle.mesa_lexer.specs.Blanks.{IsGap}
use Rattle.mesa_lexer.specs.Forms.{Lexeme, Whole, Unended, Longest, NothingBegins, IsTooLarge, IsTooLong}
use Rattle.mesa_base.specs.declared.limits.TheConstants.{TEXT_BYTES}
use Rattle.mesa_lexer.specs.Tokens.{NoGap, IsToken, place_in, Reaches, start, gap, token, HasTokens, Stops, HasLexFault, text_too_long, no_token, not_in_text, open_text, too_large, too_long}
use Rattle.mesa_lexer.specs.Answer.{HasOneAnswer}
use Rattle.mesa_lexer.specs.Lexed.{Stands}
use Rattle.mesa_lexer.specs.declared.token.Kind.{Kind}
use Rattle.mesa_lexer.specs.declared.token.Kind.TheVariants as k
use Rattle.mesa_lexer.specs.declared.token.Token.{Token}
use Rattle.mesa_lexer.specs.declared.token.Tokens.{Tokens}
use Rattle.mesa_lexer.specs.declared.fault.LexFault.{LexFault}
use Rattle.mesa_lexer.specs.declared.fault.LexFault.TheVariants as f
use Rattle.mesa_lexer.specs.declared.lexed.Lexed.{Lexed}
use Rattle.mesa_lexer.specs.declared.lexed.Lexed.TheVariants as p
use Rattle.mesa_lexer.proofs.Gaps.{gap_is}
use Rattle.mesa_lexer.proofs.Standing.{something_stands}
use Rattle.mesa_lexer.proofs.Same.{longest_same, token_same, gap_same, token_some, no_gap_at_end, no_token_at_end}

-- the list with one more token
abbrev with_token : List ℕ → ℕ → List Token → Kind → List Token
with_token text at tokens kind = tokens ++ record { kind = kind; place = place_in text at tokens } ∷ []

-- from a place on, a text is walked up to an end
data Path (text : List ℕ) (end : ℕ) (all : List Token) : ℕ → List Token → Type 0 where
  here : Path text end all end all
  over_gap : {at n : ℕ} {tokens : List Token} → IsGap (drop at text) n → Path text end all (at + n) tokens → Path text end all at tokens
  over_token : {at n : ℕ} {tokens : List Token} {kind : Kind} → IsToken (drop at text) n kind → Path text end all (at + n) (with_token text at tokens kind) → Path text end all at tokens

path_from : {text all : _} {end at : ℕ} {tokens : List Token} → Reaches text at tokens → Path text end all at tokens → Path text end all 0 []
path_from start path = path
path_from (gap before g) path = path_from before (over_gap g path)
path_from (token before t) path = path_from before (over_token t path)

-- from here no step leads on
record Final (text : List ℕ) (at : ℕ) : Type 0 where
  no_gap : NoGap (drop at text)
  no_token : (n : ℕ) (kind : Kind) → ¬ IsToken (drop at text) n kind

path_same : {text : List ℕ} {b c : ℕ} {us vs : List Token} {at : ℕ} {tokens : List Token} → Final text b → Final text c → Path text b us at tokens → Path text c vs at tokens → (b ≡ c) × (us ≡ vs)
path_same fb fc here here = (refl, refl)
path_same fb fc here (over_gap {n = n} g q) = absurd (fb.no_gap n g)
path_same fb fc here (over_token {n = n} {kind = kind} t q) = absurd (fb.no_token n kind t)
path_same fb fc (over_gap {n = n} g p) here = absurd (fc.no_gap n g)
path_same fb fc (over_token {n = n} {kind = kind} t p) here = absurd (fc.no_token n kind t)
path_same fb fc (over_gap {n = n} g p) (over_token t q) = absurd (t.no_gap n g)
path_same fb fc (over_token t p) (over_gap {n = n} g q) = absurd (t.no_gap n g)
path_same {text} {b} {c} {us} {vs} {at} {tokens} fb fc (over_gap {n = n} g p) (over_gap {n = m} h q) =
    path_same fb fc p (subst (λ l. Path text c vs (at + l) tokens) (gap_same h g) q)
path_same {text} {b} {c} {us} {vs} {at} {tokens} fb fc (over_token {n = n} {kind = one} t p) (over_token {n = m} {kind = two} u q) =
    let same = token_same u t in
    let q' = subst (λ l. Path text c vs (at + l) (with_token text at tokens two)) same.0 q in
    path_same fb fc p (subst (λ kind. Path text c vs (at + n) (with_token text at tokens kind)) same.1 q')

reaches_same : {text : List ℕ} {a b : ℕ} {us vs : List Token} → Final text a → Final text b → Reaches text a us → Reaches text b vs → (a ≡ b) × (us ≡ vs)
reaches_same fa fb one two = path_same fa fb (path_from one here) (path_from two here)

end_final : (text : List ℕ) → Final text (length text)
end_final text =
    let nil : drop (length text) text ≡ [] = drop_all (length text) text (omega arith) in
    record {
      no_gap = λ n g. no_gap_at_end n (subst (λ l. IsGap l n) nil g);
      no_token = λ n kind t. no_token_at_end n (Whole kind) (subst (λ l. Longest l n (Whole kind)) nil t.longest);
    }

-- what is read at a fault: nothing, or the longest form
abbrev Reading : Type 0
Reading = Option (ℕ × Lexeme)

abbrev Reads : List ℕ → Reading → Type 0
Reads rest None = NothingBegins rest
Reads rest (Some t) = Longest rest t.0 t.1

reads_same : (rest : List ℕ) (r s : Reading) → Reads rest r → Reads rest s → r ≡ s
reads_same rest None None one two = refl
reads_same rest None (Some t) one two = absurd (one t.0 t.1 two.is_there two.is_form)
reads_same rest (Some t) None one two = absurd (two t.0 t.1 one.is_there one.is_form)
reads_same rest (Some t) (Some u) one two =
    let same = longest_same one two in
    ap (λ n. Some (n, t.1)) same.0 ∙ ap (λ x. Some (u.0, x)) same.1

-- whether a token is refused as too large, or as too long
abbrev is_large : Kind → Bool
is_large (k.Number n) = nat_lt 4294967295 n
is_large (k.Char code) = nat_lt 255 code
is_large (k.Name bytes) = false
is_large (k.Word w) = false
is_large (k.Text value) = false
is_large (k.Mark m) = false

large_is : (kind : Kind) → IsTooLarge kind → is_large kind ≡ true
large_is (k.Number n) large = lt-ltb 4294967295 n large
large_is (k.Char code) large = lt-ltb 255 code large
large_is (k.Name bytes) large = absurd large
large_is (k.Word w) large = absurd large
large_is (k.Text value) large = absurd large
large_is (k.Mark m) large = absurd large

long_is : (kind : Kind) → IsTooLong kind → is_large kind ≡ false
long_is (k.Number n) long = absurd long
long_is (k.Char code) long = absurd long
long_is (k.Name bytes) long = refl
long_is (k.Word w) long = refl
long_is (k.Text value) long = refl
long_is (k.Mark m) long = refl

abbrev fault_at : List ℕ → ℕ → List Token → Reading → LexFault
fault_at text at tokens None = f.BadByte (place_in text at tokens)
fault_at text at tokens (Some (n, Unended)) = if nat_lt (at + n) (length text) then f.BadByte (place_in text (at + n) tokens) else f.OpenString (place_in text at tokens)
fault_at text at tokens (Some (n, Whole kind)) = if is_large kind then f.NumberTooLarge (place_in text at tokens) else f.TokenTooLong (place_in text at tokens)

-- what a fault comes from
record Cause (text : List ℕ) (fault : LexFault) : Type 0 where
  at : ℕ
  tokens : List Token
  reading : Reading
  stops : Stops text at tokens
  reads : Reads (drop at text) reading
  final : Final text at
  fault_is : fault ≡ fault_at text at tokens reading

no_token_final : {text : List ℕ} {at n : ℕ} {tokens : List Token} {y : Lexeme} → Stops text at tokens → Longest (drop at text) n y → ((kind : Kind) → y ≡ Whole kind → IsTooLarge kind ⊎ IsTooLong kind) → Final text at
no_token_final {text} {at} {n} {tokens} {y} stops long over = record { no_gap = stops.no_gap; no_token = none }
  where
    none : (m : ℕ) (kind : Kind) → ¬ IsToken (drop at text) m kind
    none m kind t = go (over kind (longest_same long t.longest).1)
      where
        go : IsTooLarge kind ⊎ IsTooLong kind → ⊥
        go (inl large) = t.not_large large
        go (inr too) = t.not_long too

cause_of : (text : List ℕ) (fault : LexFault) → length text ≤ TEXT_BYTES → HasLexFault text fault → Cause text fault
cause_of text fault short (text_too_long over) = absurd (omega arith)
cause_of text fault short (no_token {at = at} {tokens = tokens} stops nothing) = record {
  at = at;
  tokens = tokens;
  reading = None;
  stops = stops;
  reads = nothing;
  final = record { no_gap = stops.no_gap; no_token = λ n kind t. nothing n (Whole kind) t.longest.is_there t.longest.is_form };
  fault_is = refl;
}
cause_of text fault short (not_in_text {at = at} {n = n} {tokens = tokens} stops long less) = record {
  at = at;
  tokens = tokens;
  reading = Some (n, Unended);
  stops = stops;
  reads = long;
  final = no_token_final stops long (λ kind e. absurd (begun_not kind e));
  fault_is = sym (cond-true (nat_lt (at + n) (length text)) _ _ (lt-ltb (at + n) (length text) less));
}
  where
    begun_not : (kind : Kind) → Unended ≡ Whole kind → ⊥
    begun_not kind e = cc
cause_of text fault short (open_text {at = at} {n = n} {tokens = tokens} stops long all) = record {
  at = at;
  tokens = tokens;
  reading = Some (n, Unended);
  stops = stops;
  reads = long;
  final = no_token_final stops long (λ kind e. absurd (begun_not kind e));
  fault_is = sym (cond-false (nat_lt (at + n) (length text)) _ _ (le-ltb (at + n) (length text) (omega arith)));
}
  where
    begun_not : (kind : Kind) → Unended ≡ Whole kind → ⊥
    begun_not kind e = cc
cause_of text fault short (too_large {at = at} {n = n} {tokens = tokens} {kind = kind} stops long large) = record {
  at = at;
  tokens = tokens;
  reading = Some (n, Whole kind);
  stops = stops;
  reads = long;
  final = no_token_final stops long (λ other e. inl (let same : kind ≡ other = cc in subst IsTooLarge same large));
  fault_is = sym (cond-true (is_large kind) _ _ (large_is kind large));
}
cause_of text fault short (too_long {at = at} {n = n} {tokens = tokens} {kind = kind} stops long over) = record {
  at = at;
  tokens = tokens;
  reading = Some (n, Whole kind);
  stops = stops;
  reads = long;
  final = no_token_final stops long (λ other e. inr (let same : kind ≡ other = cc in subst IsTooLong same over));
  fault_is = sym (cond-false (is_large kind) _ _ (long_is kind over));
}

one_fault : (text : List ℕ) (first second : LexFault) → HasLexFault text first → HasLexFault text second → first ≡ second
one_fault text first second one two = go (cases_lt TEXT_BYTES (length text))
  where
    long_fault : TEXT_BYTES < length text → (fault : LexFault) → HasLexFault text fault → fault ≡ f.TextTooLong
    long_fault over fault (text_too_long over') = refl
    long_fault over fault (no_token stops nothing) = let s = stops.not_long in absurd (omega arith)
    long_fault over fault (not_in_text stops long less) = let s = stops.not_long in absurd (omega arith)
    long_fault over fault (open_text stops long all) = let s = stops.not_long in absurd (omega arith)
    long_fault over fault (too_large stops long large) = let s = stops.not_long in absurd (omega arith)
    long_fault over fault (too_long stops long over') = let s = stops.not_long in absurd (omega arith)

    go : (TEXT_BYTES < length text) ⊎ (length text ≤ TEXT_BYTES) → first ≡ second
    go (inl over) = long_fault over first one ∙ sym (long_fault over second two)
    go (inr short) =
        let a = cause_of text first short one in
        let b = cause_of text second short two in
        let same = reaches_same a.final b.final a.stops.before b.stops.before in
        let reads : Reads (drop b.at text) a.reading = subst (λ at. Reads (drop at text) a.reading) same.0 a.reads in
        a.fault_is
        ∙ ap (λ at. fault_at text at a.tokens a.reading) same.0
        ∙ ap (λ tokens. fault_at text b.at tokens a.reading) same.1
        ∙ ap (λ r. fault_at text b.at b.tokens r) (reads_same (drop b.at text) a.reading b.reading reads b.reads)
        ∙ sym b.fault_is

one_list : (text : List ℕ) (first second : Tokens) → HasTokens text first → HasTokens text second → first ≡ second
one_list text first second one two =
    let same = reaches_same (end_final text) (end_final text) one.all two.all in
    let ends : first.end ≡ second.end = one.end_is ∙ ap (λ items. place_in text (length text) items) same.1 ∙ sym two.end_is in
    tokens_same first second same.1 ends
  where
    tokens_same : (a b : Tokens) → a.items ≡ b.items → a.end ≡ b.end → a ≡ b
    tokens_same a b items end = ap (λ (l : List Token). record { items = l; end = a.end }) items ∙ ap (λ (e : Place). record { items = b.items; end = e }) end

never_both : (text : List ℕ) (tokens : Tokens) (fault : LexFault) → HasTokens text tokens → ¬ HasLexFault text fault
never_both text tokens fault has wrong =
    let cause = cause_of text fault has.not_long wrong in
    let same = reaches_same (end_final text) cause.final has.all cause.stops.before in
    let less = cause.stops.is_there in
    let at_end = same.0 in
    absurd (omega arith)

abbrev Answer : List ℕ → Type 0
Answer text = ((tokens : Tokens) × HasTokens text tokens) ⊎ ((fault : LexFault) × HasLexFault text fault)

stands_at : (rest : List ℕ) → 0 < length rest → (lexed : Lexed) × Stands rest lexed
stands_at [] some = absurd (omega arith)
stands_at (b ∷ rest) some = something_stands b rest

-- where the walk from a place on is known, so is that from what stands before it
abbrev Later : List ℕ → ℕ → Type 0
Later text at = (next : ℕ) (tokens : List Token) → Reaches text next tokens → at < next → next ≤ length text → Answer text

stopped : {text : List ℕ} {at : ℕ} {tokens : List Token} → length text ≤ TEXT_BYTES → Reaches text at tokens → at < length text → NoGap (drop at text) → Stops text at tokens
stopped short reaches less gapless = record { not_long = short; before = reaches; is_there = less; no_gap = gapless }

by_lexed : {text : List ℕ} {at : ℕ} {tokens : List Token} → length text ≤ TEXT_BYTES → Reaches text at tokens → at < length text → Later text at
    → (lexed : Lexed) → Stands (drop at text) lexed → Answer text
by_lexed {text} {at} {tokens} short reaches less later (p.Gap n) stands =
    let all = gap_is stands in
    let some = all.1 in
    let within = all.2 in
    later (at + n) tokens (gap reaches stands) (omega arith) (omega (arith, length-drop at text))
by_lexed {text} {at} {tokens} short reaches less later (p.Token n kind) stands =
    let some = token_some (drop at text) n (Whole kind) stands.longest in
    let within = stands.longest.is_there in
    later (at + n) (with_token text at tokens kind) (token reaches stands) (omega arith) (omega (arith, length-drop at text))
by_lexed {text} {at} {tokens} short reaches less later p.NoToken stands =
    inr (f.BadByte (place_in text at tokens), no_token (stopped short reaches less stands.0) stands.1)
by_lexed {text} {at} {tokens} short reaches less later (p.Stray n) stands =
    inr (f.BadByte (place_in text (at + n) tokens), not_in_text (stopped short reaches less stands.0) stands.1 (let l = stands.2 in omega (arith, length-drop at text)))
by_lexed {text} {at} {tokens} short reaches less later p.Open stands =
    inr (f.OpenString (place_in text at tokens), open_text (stopped short reaches less stands.0) stands.1 (omega (arith, length-drop at text)))
by_lexed {text} {at} {tokens} short reaches less later p.TooLarge stands =
    inr (f.NumberTooLarge (place_in text at tokens), too_large (stopped short reaches less stands.0) stands.1.longest stands.1.passed)
by_lexed {text} {at} {tokens} short reaches less later p.TooLong stands =
    inr (f.TokenTooLong (place_in text at tokens), too_long (stopped short reaches less stands.0) stands.1.longest stands.1.passed)

walked : {text : List ℕ} {at : ℕ} {tokens : List Token} → length text ≤ TEXT_BYTES → Reaches text at tokens → at ≡ length text → Answer text
walked {text} {at} {tokens} short reaches same =
    inl (
      record { items = tokens; end = place_in text (length text) tokens },
      record { not_long = short; all = subst (λ at. Reaches text at tokens) same reaches; end_is = refl },
    )

walk : (text : List ℕ) → length text ≤ TEXT_BYTES → (fuel at : ℕ) (tokens : List Token) → Reaches text at tokens → at ≤ length text → length text - at ≤ fuel → Answer text
walk text short zero at tokens reaches there enough = walked short reaches (omega arith)
walk text short (suc fuel) at tokens reaches there enough =
    go (cases_lt at (length text)) (λ next more reaches' further within. walk text short fuel next more reaches' within (omega arith))
  where
    go : (at < length text) ⊎ (length text ≤ at) → Later text at → Answer text
    go (inr all) later = walked short reaches (omega arith)
    go (inl less) later =
        let it = stands_at (drop at text) (omega (arith, length-drop at text)) in
        by_lexed short reaches less later it.0 it.1

an_answer : (text : List ℕ) → Answer text
an_answer text = go (cases_lt TEXT_BYTES (length text))
  where
    go : (TEXT_BYTES < length text) ⊎ (length text ≤ TEXT_BYTES) → Answer text
    go (inl over) = inr (f.TextTooLong, text_too_long over)
    go (inr short) = walk text short (length text) 0 [] start (omega arith) (omega arith)

pub one_answer : (text : List ℕ) → HasOneAnswer text
one_answer text = record { an_answer = an_answer text; one_list = one_list text; one_fault = one_fault text; never_both = never_both text }

is_memory : (fault : LexFault) → (fault ≡ f.Memory) ⊎ (fault ≡ f.Memory → ⊥)
is_memory (f.BadByte place) = inr (λ e. cc)
is_memory (f.OpenString place) = inr (λ e. cc)
is_memory (f.NumberTooLarge place) = inr (λ e. cc)
is_memory (f.TokenTooLong place) = inr (λ e. cc)
is_memory f.TextTooLong = inr (λ e. cc)
is_memory f.Memory = inl refl

-- where a text has tokens, an answer that is right is these tokens, or want of memory
pub only_tokens : (text : List ℕ) (answer : Result Tokens LexFault) → IfOk answer (λ tokens. HasTokens text tokens) → IfErr answer (λ fault. (fault ≡ f.Memory → ⊥) → HasLexFault text fault)
    → (tokens : Tokens) → HasTokens text tokens → MatchResult answer (λ found. found ≡ tokens) (λ fault. fault ≡ f.Memory)
only_tokens text (Ok found) ok err tokens has = one_list text found tokens ok has
only_tokens text (Err fault) ok err tokens has = go (is_memory fault)
  where
    go : (fault ≡ f.Memory) ⊎ (fault ≡ f.Memory → ⊥) → fault ≡ f.Memory
    go (inl same) = same
    go (inr other) = absurd (never_both text tokens fault has (err other))

-- where a text has a fault, an answer that is right is this fault, or want of memory
pub only_fault : (text : List ℕ) (answer : Result Tokens LexFault) → IfOk answer (λ tokens. HasTokens text tokens) → IfErr answer (λ fault. (fault ≡ f.Memory → ⊥) → HasLexFault text fault)
    → (fault : LexFault) → HasLexFault text fault → MatchResult answer (λ tokens. ⊥) (λ found. found ≢ f.Memory → found ≡ fault)
only_fault text (Ok found) ok err fault has = never_both text found fault ok has
only_fault text (Err found) ok err fault has = λ other. one_fault text found fault (err other) has
