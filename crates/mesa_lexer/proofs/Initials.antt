-- The words, by their first letters.
use Rattle.std.proofs.Common.{◌≡◌, ◌≢◌, ◌<◌, ◌≤◌, length, get_or, codes, ℕ, Bool, true, false, ◌==◌, not, List, [], ◌∷◌, filter, None, arith, refl, sym, ap, ◌∙◌}
use Rattle.std.specs.Str.{bytes_eq}
use Rattle.std.specs.List.{list_all, list_any}
use Rattle.std.proofs.lemmas.Slice.Eq.{bytes_eq-Decides}
use Rattle.std.proofs.lemmas.Bool.{and_parts, eqb-true, eq-eqb, not-true, and_from, not_from_false, ne_eqb}
use Rattle.mesa_lexer.specs.Blanks.{begins_with}
use Rattle.mesa_lexer.specs.Words.{spelled, words, words_from, word_of}
use Rattle.mesa_lexer.specs.declared.word.Word.TheVariants.{AndWord, AnyWord, ArrayWord, BeginWord, BooleanWord, CardinalWord, CharacterWord, CodeWord, ConfigurationWord, ContinueWord, ControlWord, DecreasingWord, DefinitionsWord, DirectoryWord, DoWord, ElseWord, EnableWord, EndWord, EndcaseWord, EndloopWord, ErrorWord, ExitWord, ExitsWord, ExportsWord, FalseWord, FinishedWord, ForWord, FromWord, GoWord, GotoWord, IfWord, ImportsWord, InWord, IntegerWord, LongWord, LoopWord, ModWord, NotWord, NullWord, OfWord, OpenWord, OrWord, PrivateWord, ProcWord, ProcedureWord, ProgramWord, PublicWord, RecordWord, RejectWord, RepeatWord, ResumeWord, RetryWord, ReturnWord, ReturnsWord, SelectWord, SignalWord, StringWord, ThenWord, ThroughWord, ToWord, TrueWord, TypeWord, UntilWord, UnwindWord, UsingWord, WhileWord, AbsWord, BaseWord, BroadcastWord, DependentWord, DescriptorWord, EntryWord, FirstWord, ForkWord, InlineWord, InternalWord, JoinWord, LastWord, LengthWord, LinksWord, LoopholeWord, MachineWord, MaxWord, MinWord, MonitorWord, NewWord, NotifyWord, PackWord, PackedWord, PlusWord, PointerWord, PortWord, ProcessWord, RealWord, RelativeWord, RestartWord, SharesWord, SizeWord, StartWord, StateWord, StopWord, TransferWord, WaitWord, WithWord}

-- a spelling is found among those with its first letter
by_letter : {A : Type 0} (rows : List (List ℕ × A)) (b : ℕ) (bytes : List ℕ) → spelled rows (b ∷ bytes) ≡ spelled (filter (λ row. begins_with b row.0) rows) (b ∷ bytes)
by_letter [] b bytes = refl
by_letter (row ∷ rows) b bytes = go (bytes_eq (b ∷ bytes) row.0) refl (begins_with b row.0) refl (by_letter rows b bytes)
  where
    head : (spelling : List ℕ) → b ∷ bytes ≡ spelling → begins_with b spelling ≡ true
    head [] e = cc
    head (c ∷ spelling) e = eq-eqb c b (let e' : b ∷ bytes ≡ c ∷ spelling = e in cc)

    go : (s : Bool) → bytes_eq (b ∷ bytes) row.0 ≡ s → (h : Bool) → begins_with b row.0 ≡ h → spelled rows (b ∷ bytes) ≡ spelled (filter (λ row. begins_with b row.0) rows) (b ∷ bytes)
        → spelled (row ∷ rows) (b ∷ bytes) ≡ spelled (filter (λ row. begins_with b row.0) (row ∷ rows)) (b ∷ bytes)
    go true e true f more = rw f (rw e refl)
    go true e false f more = let h = head row.0 ((bytes_eq-Decides (b ∷ bytes) row.0).0 e) in cc
    go false e true f more = rw f (rw e more)
    go false e false f more = rw f (rw e more)

pub word_by_letter : (b : ℕ) (bytes : List ℕ) → word_of (b ∷ bytes) ≡ spelled (words_from b) (b ∷ bytes)
unfolding word_of words_from
word_by_letter b bytes = by_letter words b bytes

pub no_word : word_of [] ≡ None
unfolding word_of words
no_word = refl

abbrev initials : List ℕ
initials = 65 ∷ 66 ∷ 67 ∷ 68 ∷ 69 ∷ 70 ∷ 71 ∷ 73 ∷ 74 ∷ 76 ∷ 77 ∷ 78 ∷ 79 ∷ 80 ∷ 82 ∷ 83 ∷ 84 ∷ 85 ∷ 87 ∷ []

-- the first byte is one of these
abbrev begins_in : List ℕ → List ℕ → Bool
begins_in letters spelling = list_any (λ l. begins_with l spelling) letters

one_letter : (b c : ℕ) (spelling : List ℕ) → begins_with b spelling ≡ true → begins_with c spelling ≡ true → b ≡ c
one_letter b c [] e f = cc
one_letter b c (x ∷ spelling) e f = sym (eqb-true x b e) ∙ eqb-true x c f

not_in : (letters : List ℕ) (b : ℕ) (spelling : List ℕ) → list_all (λ l. not (b == l)) letters ≡ true → begins_in letters spelling ≡ true → begins_with b spelling ≡ false
not_in [] b spelling none one = cc
not_in (l ∷ letters) b spelling none one =
    let parts = and_parts (not (b == l)) (list_all (λ l. not (b == l)) letters) none in
    go (begins_with l spelling) refl (begins_with b spelling) refl (not_in letters b spelling parts.1) (not-true (b == l) parts.0)
  where
    go : (x : Bool) → begins_with l spelling ≡ x → (y : Bool) → begins_with b spelling ≡ y → (begins_in letters spelling ≡ true → begins_with b spelling ≡ false) → (b == l) ≡ false → begins_with b spelling ≡ false
    go true e true f more other = let same = eq-eqb b l (one_letter b l spelling f e) in cc
    go true e false f more other = f
    go false e y f more other = more (rw e at one)

none_from : {A : Type 0} (rows : List (List ℕ × A)) (b : ℕ) → list_all (λ l. not (b == l)) initials ≡ true → list_all (λ row. begins_in initials row.0) rows ≡ true → filter (λ row. begins_with b row.0) rows ≡ []
none_from [] b none all = refl
none_from (row ∷ rows) b none all =
    let parts = and_parts (begins_in initials row.0) (list_all (λ row. begins_in initials row.0) rows) all in
    rw (not_in initials b row.0 none parts.0) (none_from rows b none parts.1)

-- no word begins with another byte
pub from_other : (b : ℕ) → list_all (λ l. not (b == l)) initials ≡ true → words_from b ≡ []
unfolding words_from words
from_other b none = none_from words b none refl

a_words : (codes "AND", AndWord) ∷ (codes "ANY", AnyWord) ∷ (codes "ARRAY", ArrayWord) ∷ (codes "ABS", AbsWord) ∷ [] ≡ words_from 65
unfolding words_from words
a_words = refl

pub from_a : (b : ℕ) → b ≡ 65 → (codes "AND", AndWord) ∷ (codes "ANY", AnyWord) ∷ (codes "ARRAY", ArrayWord) ∷ (codes "ABS", AbsWord) ∷ [] ≡ words_from b
from_a b e = a_words ∙ ap words_from (sym e)

b_words : (codes "BEGIN", BeginWord) ∷ (codes "BOOLEAN", BooleanWord) ∷ (codes "BASE", BaseWord) ∷ (codes "BROADCAST", BroadcastWord) ∷ [] ≡ words_from 66
unfolding words_from words
b_words = refl

pub from_b : (b : ℕ) → b ≡ 66 → (codes "BEGIN", BeginWord) ∷ (codes "BOOLEAN", BooleanWord) ∷ (codes "BASE", BaseWord) ∷ (codes "BROADCAST", BroadcastWord) ∷ [] ≡ words_from b
from_b b e = b_words ∙ ap words_from (sym e)

c_words : (codes "CARDINAL", CardinalWord) ∷ (codes "CHARACTER", CharacterWord) ∷ (codes "CODE", CodeWord) ∷ (codes "CONFIGURATION", ConfigurationWord) ∷ (codes "CONTINUE", ContinueWord) ∷ (codes "CONTROL", ControlWord) ∷ [] ≡ words_from 67
unfolding words_from words
c_words = refl

pub from_c : (b : ℕ) → b ≡ 67 → (codes "CARDINAL", CardinalWord) ∷ (codes "CHARACTER", CharacterWord) ∷ (codes "CODE", CodeWord) ∷ (codes "CONFIGURATION", ConfigurationWord) ∷ (codes "CONTINUE", ContinueWord) ∷ (codes "CONTROL", ControlWord) ∷ [] ≡ words_from b
from_c b e = c_words ∙ ap words_from (sym e)

d_words : (codes "DECREASING", DecreasingWord) ∷ (codes "DEFINITIONS", DefinitionsWord) ∷ (codes "DIRECTORY", DirectoryWord) ∷ (codes "DO", DoWord) ∷ (codes "DEPENDENT", DependentWord) ∷ (codes "DESCRIPTOR", DescriptorWord) ∷ [] ≡ words_from 68
unfolding words_from words
d_words = refl

pub from_d : (b : ℕ) → b ≡ 68 → (codes "DECREASING", DecreasingWord) ∷ (codes "DEFINITIONS", DefinitionsWord) ∷ (codes "DIRECTORY", DirectoryWord) ∷ (codes "DO", DoWord) ∷ (codes "DEPENDENT", DependentWord) ∷ (codes "DESCRIPTOR", DescriptorWord) ∷ [] ≡ words_from b
from_d b e = d_words ∙ ap words_from (sym e)

e_words : (codes "ELSE", ElseWord) ∷ (codes "ENABLE", EnableWord) ∷ (codes "END", EndWord) ∷ (codes "ENDCASE", EndcaseWord) ∷ (codes "ENDLOOP", EndloopWord) ∷ (codes "ERROR", ErrorWord) ∷ (codes "EXIT", ExitWord) ∷ (codes "EXITS", ExitsWord) ∷ (codes "EXPORTS", ExportsWord) ∷ (codes "ENTRY", EntryWord) ∷ [] ≡ words_from 69
unfolding words_from words
e_words = refl

pub from_e : (b : ℕ) → b ≡ 69 → (codes "ELSE", ElseWord) ∷ (codes "ENABLE", EnableWord) ∷ (codes "END", EndWord) ∷ (codes "ENDCASE", EndcaseWord) ∷ (codes "ENDLOOP", EndloopWord) ∷ (codes "ERROR", ErrorWord) ∷ (codes "EXIT", ExitWord) ∷ (codes "EXITS", ExitsWord) ∷ (codes "EXPORTS", ExportsWord) ∷ (codes "ENTRY", EntryWord) ∷ [] ≡ words_from b
from_e b e = e_words ∙ ap words_from (sym e)

f_words : (codes "FALSE", FalseWord) ∷ (codes "FINISHED", FinishedWord) ∷ (codes "FOR", ForWord) ∷ (codes "FROM", FromWord) ∷ (codes "FIRST", FirstWord) ∷ (codes "FORK", ForkWord) ∷ [] ≡ words_from 70
unfolding words_from words
f_words = refl

pub from_f : (b : ℕ) → b ≡ 70 → (codes "FALSE", FalseWord) ∷ (codes "FINISHED", FinishedWord) ∷ (codes "FOR", ForWord) ∷ (codes "FROM", FromWord) ∷ (codes "FIRST", FirstWord) ∷ (codes "FORK", ForkWord) ∷ [] ≡ words_from b
from_f b e = f_words ∙ ap words_from (sym e)

g_words : (codes "GO", GoWord) ∷ (codes "GOTO", GotoWord) ∷ [] ≡ words_from 71
unfolding words_from words
g_words = refl

pub from_g : (b : ℕ) → b ≡ 71 → (codes "GO", GoWord) ∷ (codes "GOTO", GotoWord) ∷ [] ≡ words_from b
from_g b e = g_words ∙ ap words_from (sym e)

i_words : (codes "IF", IfWord) ∷ (codes "IMPORTS", ImportsWord) ∷ (codes "IN", InWord) ∷ (codes "INTEGER", IntegerWord) ∷ (codes "INLINE", InlineWord) ∷ (codes "INTERNAL", InternalWord) ∷ [] ≡ words_from 73
unfolding words_from words
i_words = refl

pub from_i : (b : ℕ) → b ≡ 73 → (codes "IF", IfWord) ∷ (codes "IMPORTS", ImportsWord) ∷ (codes "IN", InWord) ∷ (codes "INTEGER", IntegerWord) ∷ (codes "INLINE", InlineWord) ∷ (codes "INTERNAL", InternalWord) ∷ [] ≡ words_from b
from_i b e = i_words ∙ ap words_from (sym e)

j_words : (codes "JOIN", JoinWord) ∷ [] ≡ words_from 74
unfolding words_from words
j_words = refl

pub from_j : (b : ℕ) → b ≡ 74 → (codes "JOIN", JoinWord) ∷ [] ≡ words_from b
from_j b e = j_words ∙ ap words_from (sym e)

l_words : (codes "LONG", LongWord) ∷ (codes "LOOP", LoopWord) ∷ (codes "LAST", LastWord) ∷ (codes "LENGTH", LengthWord) ∷ (codes "LINKS", LinksWord) ∷ (codes "LOOPHOLE", LoopholeWord) ∷ [] ≡ words_from 76
unfolding words_from words
l_words = refl

pub from_l : (b : ℕ) → b ≡ 76 → (codes "LONG", LongWord) ∷ (codes "LOOP", LoopWord) ∷ (codes "LAST", LastWord) ∷ (codes "LENGTH", LengthWord) ∷ (codes "LINKS", LinksWord) ∷ (codes "LOOPHOLE", LoopholeWord) ∷ [] ≡ words_from b
from_l b e = l_words ∙ ap words_from (sym e)

m_words : (codes "MOD", ModWord) ∷ (codes "MACHINE", MachineWord) ∷ (codes "MAX", MaxWord) ∷ (codes "MIN", MinWord) ∷ (codes "MONITOR", MonitorWord) ∷ [] ≡ words_from 77
unfolding words_from words
m_words = refl

pub from_m : (b : ℕ) → b ≡ 77 → (codes "MOD", ModWord) ∷ (codes "MACHINE", MachineWord) ∷ (codes "MAX", MaxWord) ∷ (codes "MIN", MinWord) ∷ (codes "MONITOR", MonitorWord) ∷ [] ≡ words_from b
from_m b e = m_words ∙ ap words_from (sym e)

n_words : (codes "NOT", NotWord) ∷ (codes "NULL", NullWord) ∷ (codes "NEW", NewWord) ∷ (codes "NOTIFY", NotifyWord) ∷ [] ≡ words_from 78
unfolding words_from words
n_words = refl

pub from_n : (b : ℕ) → b ≡ 78 → (codes "NOT", NotWord) ∷ (codes "NULL", NullWord) ∷ (codes "NEW", NewWord) ∷ (codes "NOTIFY", NotifyWord) ∷ [] ≡ words_from b
from_n b e = n_words ∙ ap words_from (sym e)

o_words : (codes "OF", OfWord) ∷ (codes "OPEN", OpenWord) ∷ (codes "OR", OrWord) ∷ [] ≡ words_from 79
unfolding words_from words
o_words = refl

pub from_o : (b : ℕ) → b ≡ 79 → (codes "OF", OfWord) ∷ (codes "OPEN", OpenWord) ∷ (codes "OR", OrWord) ∷ [] ≡ words_from b
from_o b e = o_words ∙ ap words_from (sym e)

p_words : (codes "PRIVATE", PrivateWord) ∷ (codes "PROC", ProcWord) ∷ (codes "PROCEDURE", ProcedureWord) ∷ (codes "PROGRAM", ProgramWord) ∷ (codes "PUBLIC", PublicWord) ∷ (codes "PACK", PackWord) ∷ (codes "PACKED", PackedWord) ∷ (codes "PLUS", PlusWord) ∷ (codes "POINTER", PointerWord) ∷ (codes "PORT", PortWord) ∷ (codes "PROCESS", ProcessWord) ∷ [] ≡ words_from 80
unfolding words_from words
p_words = refl

pub from_p : (b : ℕ) → b ≡ 80 → (codes "PRIVATE", PrivateWord) ∷ (codes "PROC", ProcWord) ∷ (codes "PROCEDURE", ProcedureWord) ∷ (codes "PROGRAM", ProgramWord) ∷ (codes "PUBLIC", PublicWord) ∷ (codes "PACK", PackWord) ∷ (codes "PACKED", PackedWord) ∷ (codes "PLUS", PlusWord) ∷ (codes "POINTER", PointerWord) ∷ (codes "PORT", PortWord) ∷ (codes "PROCESS", ProcessWord) ∷ [] ≡ words_from b
from_p b e = p_words ∙ ap words_from (sym e)

r_words : (codes "RECORD", RecordWord) ∷ (codes "REJECT", RejectWord) ∷ (codes "REPEAT", RepeatWord) ∷ (codes "RESUME", ResumeWord) ∷ (codes "RETRY", RetryWord) ∷ (codes "RETURN", ReturnWord) ∷ (codes "RETURNS", ReturnsWord) ∷ (codes "REAL", RealWord) ∷ (codes "RELATIVE", RelativeWord) ∷ (codes "RESTART", RestartWord) ∷ [] ≡ words_from 82
unfolding words_from words
r_words = refl

pub from_r : (b : ℕ) → b ≡ 82 → (codes "RECORD", RecordWord) ∷ (codes "REJECT", RejectWord) ∷ (codes "REPEAT", RepeatWord) ∷ (codes "RESUME", ResumeWord) ∷ (codes "RETRY", RetryWord) ∷ (codes "RETURN", ReturnWord) ∷ (codes "RETURNS", ReturnsWord) ∷ (codes "REAL", RealWord) ∷ (codes "RELATIVE", RelativeWord) ∷ (codes "RESTART", RestartWord) ∷ [] ≡ words_from b
from_r b e = r_words ∙ ap words_from (sym e)

s_words : (codes "SELECT", SelectWord) ∷ (codes "SIGNAL", SignalWord) ∷ (codes "STRING", StringWord) ∷ (codes "SHARES", SharesWord) ∷ (codes "SIZE", SizeWord) ∷ (codes "START", StartWord) ∷ (codes "STATE", StateWord) ∷ (codes "STOP", StopWord) ∷ [] ≡ words_from 83
unfolding words_from words
s_words = refl

pub from_s : (b : ℕ) → b ≡ 83 → (codes "SELECT", SelectWord) ∷ (codes "SIGNAL", SignalWord) ∷ (codes "STRING", StringWord) ∷ (codes "SHARES", SharesWord) ∷ (codes "SIZE", SizeWord) ∷ (codes "START", StartWord) ∷ (codes "STATE", StateWord) ∷ (codes "STOP", StopWord) ∷ [] ≡ words_from b
from_s b e = s_words ∙ ap words_from (sym e)

t_words : (codes "THEN", ThenWord) ∷ (codes "THROUGH", ThroughWord) ∷ (codes "TO", ToWord) ∷ (codes "TRUE", TrueWord) ∷ (codes "TYPE", TypeWord) ∷ (codes "TRANSFER", TransferWord) ∷ [] ≡ words_from 84
unfolding words_from words
t_words = refl

pub from_t : (b : ℕ) → b ≡ 84 → (codes "THEN", ThenWord) ∷ (codes "THROUGH", ThroughWord) ∷ (codes "TO", ToWord) ∷ (codes "TRUE", TrueWord) ∷ (codes "TYPE", TypeWord) ∷ (codes "TRANSFER", TransferWord) ∷ [] ≡ words_from b
from_t b e = t_words ∙ ap words_from (sym e)

u_words : (codes "UNTIL", UntilWord) ∷ (codes "UNWIND", UnwindWord) ∷ (codes "USING", UsingWord) ∷ [] ≡ words_from 85
unfolding words_from words
u_words = refl

pub from_u : (b : ℕ) → b ≡ 85 → (codes "UNTIL", UntilWord) ∷ (codes "UNWIND", UnwindWord) ∷ (codes "USING", UsingWord) ∷ [] ≡ words_from b
from_u b e = u_words ∙ ap words_from (sym e)

w_words : (codes "WHILE", WhileWord) ∷ (codes "WAIT", WaitWord) ∷ (codes "WITH", WithWord) ∷ [] ≡ words_from 87
unfolding words_from words
w_words = refl

pub from_w : (b : ℕ) → b ≡ 87 → (codes "WHILE", WhileWord) ∷ (codes "WAIT", WaitWord) ∷ (codes "WITH", WithWord) ∷ [] ≡ words_from b
from_w b e = w_words ∙ ap words_from (sym e)

-- a byte that begins no word
pub from_no_initial : (b : ℕ) → b ≢ 65 → b ≢ 66 → b ≢ 67 → b ≢ 68 → b ≢ 69 → b ≢ 70 → b ≢ 71 → b ≢ 73 → b ≢ 74 → b ≢ 76 → b ≢ 77 → b ≢ 78 → b ≢ 79 → b ≢ 80 → b ≢ 82 → b ≢ 83 → b ≢ 84 → b ≢ 85 → b ≢ 87 → [] ≡ words_from b
from_no_initial b not_a not_b not_c not_d not_e not_f not_g not_i not_j not_l not_m not_n not_o not_p not_r not_s not_t not_u not_w =
    sym (from_other b (and_from (not (b == 65)) _ (not_from_false (b == 65) (ne_eqb b 65 not_a)) (and_from (not (b == 66)) _ (not_from_false (b == 66) (ne_eqb b 66 not_b)) (and_from (not (b == 67)) _ (not_from_false (b == 67) (ne_eqb b 67 not_c)) (and_from (not (b == 68)) _ (not_from_false (b == 68) (ne_eqb b 68 not_d)) (and_from (not (b == 69)) _ (not_from_false (b == 69) (ne_eqb b 69 not_e)) (and_from (not (b == 70)) _ (not_from_false (b == 70) (ne_eqb b 70 not_f)) (and_from (not (b == 71)) _ (not_from_false (b == 71) (ne_eqb b 71 not_g)) (and_from (not (b == 73)) _ (not_from_false (b == 73) (ne_eqb b 73 not_i)) (and_from (not (b == 74)) _ (not_from_false (b == 74) (ne_eqb b 74 not_j)) (and_from (not (b == 76)) _ (not_from_false (b == 76) (ne_eqb b 76 not_l)) (and_from (not (b == 77)) _ (not_from_false (b == 77) (ne_eqb b 77 not_m)) (and_from (not (b == 78)) _ (not_from_false (b == 78) (ne_eqb b 78 not_n)) (and_from (not (b == 79)) _ (not_from_false (b == 79) (ne_eqb b 79 not_o)) (and_from (not (b == 80)) _ (not_from_false (b == 80) (ne_eqb b 80 not_p)) (and_from (not (b == 82)) _ (not_from_false (b == 82) (ne_eqb b 82 not_r)) (and_from (not (b == 83)) _ (not_from_false (b == 83) (ne_eqb b 83 not_s)) (and_from (not (b == 84)) _ (not_from_false (b == 84) (ne_eqb b 84 not_t)) (and_from (not (b == 85)) _ (not_from_false (b == 85) (ne_eqb b 85 not_u)) (and_from (not (b == 87)) _ (not_from_false (b == 87) (ne_eqb b 87 not_w)) refl))))))))))))))))))))

pub word_of_none : (bytes : List ℕ) → length bytes < 1 → None ≡ word_of bytes
word_of_none [] short = sym no_word
word_of_none (b ∷ bytes) short = absurd (omega arith)

pub word_of_first : (bytes : List ℕ) → 1 ≤ length bytes → spelled (words_from (get_or bytes 0 0)) bytes ≡ word_of bytes
word_of_first [] some = absurd (omega arith)
word_of_first (b ∷ bytes) some = sym (word_by_letter b bytes)
