-- Programs that run: each is checked.
use Rattle.std.specs.Prelude.{◌≡◌, List, [], ◌∷◌, ◌++◌, None, codes}
use Rattle.std.proofs.Common.{refl}
use Rattle.interface_records.specs.Faces.{iodefs}
use Rattle.interface_records.specs.declared.interface.Interface.{Interface}
use Rattle.mesa_types.specs.declared.faces.ItemKind.TheVariants as item
use Rattle.interface_records.specs.PlainTypes as v
use Rattle.interface_records.specs.PlainTypes.{PlainInterface, interface_of}
use Rattle.check_rules.specs.declared.fault.Cause.TheVariants.{UnknownName, TwiceDeclared, BadLabel, NotResumable, StampMissing, StampUnwanted}
use Rattle.check_rules.proofs.Texts.{Row, fine, bad, runs, mistakes, mistakes_under, interface}
use Rattle.check_rules.proofs.Everything.{everything}

-- the text of the built-in interface, whose stamp is 1
abbrev pub io : List PlainInterface
io = interface 1 (codes "IODefs: DEFINITIONS = BEGIN WriteChar: PROCEDURE [c: CHARACTER]; WriteString: PROCEDURE [s: STRING]; "
    ++ codes "WriteDecimal: PROCEDURE [n: INTEGER]; ReadChar: PROCEDURE RETURNS [CHARACTER]; EndOfInput: PROCEDURE RETURNS [BOOLEAN]; NoInput: ERROR; END.")

abbrev interfaces : List PlainInterface → List Interface
interfaces [] = []
interfaces (i ∷ is) = interface_of i ∷ interfaces is

built_in : interfaces io ≡ iodefs ∷ []
unfolding everything
built_in = refl

abbrev first_rows : List Row
first_rows =
    fine (codes "Nothing: PROGRAM = BEGIN END.")
    ∷ []

nothing : mistakes [] 0 first_rows ≡ []
unfolding everything
nothing = refl

abbrev loops : List Row
loops =
    runs (codes "n: INTEGER _ 0; UNTIL EndOfInput[] DO n _ n + (ReadChar[] - '0) ENDLOOP; WriteDecimal[n];")
    ∷ runs (codes "i: INTEGER _ 32767; i _ i + 1; WriteDecimal[i];")
    ∷ runs (codes "i: INTEGER; FOR i IN [3..3) DO WriteDecimal[i] ENDLOOP; FOR i DECREASING IN [1..3] DO WriteDecimal[i] ENDLOOP;")
    ∷ runs (codes "a: ARRAY [0..2] OF INTEGER; i: INTEGER _ 3; WriteDecimal[7]; a[i] _ 1; WriteDecimal[8];")
    ∷ runs (codes "P: PROCEDURE [n: INTEGER] = BEGIN IF n > 1 THEN P[n - 1]; END; P[8191];")
    ∷ runs (codes "Pair: TYPE = RECORD [x, y: INTEGER]; p: Pair _ [y: 2, x: 1]; a, b, n: INTEGER; [a, b] _ p; WriteDecimal[a]; WriteDecimal[b]; n _ 17B; "
    ++ codes "WriteDecimal[n]; WriteChar[101C]; WriteDecimal[17D];")
    ∷ runs (codes "F: PROCEDURE RETURNS [a, b: INTEGER] = BEGIN a _ 1; b _ 2; RETURN[b, a]; END; x, y: INTEGER; [x, y] _ F[]; WriteDecimal[x]; "
    ++ codes "WriteDecimal[y];")
    ∷ []

loops_and_calls : mistakes io 0 loops ≡ []
unfolding everything
loops_and_calls = refl

abbrev arms : List Row
arms =
    runs (codes "E: ERROR = CODE; C: PROCEDURE = BEGIN ENABLE UNWIND => WriteChar['c]; ERROR E; END; B: PROCEDURE = BEGIN ENABLE UNWIND => WriteChar['b]; "
    ++ codes "C[]; END; A: PROCEDURE = BEGIN B[! E => BEGIN WriteChar['a]; CONTINUE END]; WriteChar['d]; END; A[];")
    ∷ runs (codes "E: ERROR = CODE; C: PROCEDURE = BEGIN ERROR E; END; B: PROCEDURE = BEGIN C[]; END; "
    ++ codes "A: PROCEDURE = BEGIN ENABLE E => BEGIN WriteChar['a]; CONTINUE END; BEGIN ENABLE UNWIND => WriteChar['x]; B[] END; END; A[]; "
    ++ codes "WriteChar['d];")
    ∷ runs (codes "k: INTEGER _ 0; E: ERROR = CODE; P: PROCEDURE = BEGIN WriteChar['p]; ERROR E; END; P[! E => BEGIN k _ k + 1; "
    ++ codes "IF k < 4 THEN RETRY ELSE CONTINUE END]; WriteDecimal[k];")
    ∷ runs (codes "S: SIGNAL = CODE; R: PROCEDURE = BEGIN SIGNAL S; END; Q: PROCEDURE = BEGIN R[! S => BEGIN WriteChar['i]; SIGNAL S; WriteChar['j]; "
    ++ codes "RESUME END]; END; Q[! S => BEGIN WriteChar['o]; RESUME END]; WriteChar['e];")
    ∷ runs (codes "E: ERROR = CODE; T: ERROR = CODE; D: PROCEDURE = BEGIN ERROR T; END; C: PROCEDURE = BEGIN ENABLE UNWIND => D[]; ERROR E; END; "
    ++ codes "B: PROCEDURE = BEGIN C[! T => BEGIN WriteChar['t]; CONTINUE END]; WriteChar['b]; END; "
    ++ codes "A: PROCEDURE = BEGIN B[! E => BEGIN WriteChar['a]; CONTINUE END]; WriteChar['d]; END; A[];")
    ∷ runs (codes "E: ERROR = CODE; Q: PROCEDURE = BEGIN ERROR E END; P: PROCEDURE RETURNS [r: INTEGER] = BEGIN Q[! E => RETURN[3]]; r _ 9 END; "
    ++ codes "WriteDecimal[P[]]; DO Q[! E => EXIT]; WriteChar['n] ENDLOOP; WriteChar['x];")
    ∷ runs (codes "Q: PROCEDURE = BEGIN ERROR END; Q[! ANY => CONTINUE]; ERROR;")
    ∷ runs (codes "E: ERROR = CODE; T: ERROR = CODE; D: PROCEDURE = BEGIN ERROR T; END; C: PROCEDURE = BEGIN ENABLE UNWIND => WriteChar['c]; ERROR E; "
    ++ codes "END; B: PROCEDURE = BEGIN ENABLE UNWIND => WriteChar['b]; C[! E => D[]]; END; A: PROCEDURE = BEGIN B[! T => BEGIN WriteChar['t]; "
    ++ codes "CONTINUE END]; WriteChar['d]; END; A[];")
    ∷ []

signals_and_unwinding : mistakes io 0 arms ≡ []
unfolding everything
signals_and_unwinding = refl

-- several modules
abbrev ask : List PlainInterface
ask = interface 10 (codes "AskDefs: DEFINITIONS = BEGIN Ask: PROCEDURE [x: INTEGER] RETURNS [INTEGER]; S: SIGNAL [x: INTEGER] RETURNS [INTEGER]; END.")

abbrev server : List Row
server =
    fine (codes "DIRECTORY AskDefs: FROM \"AskDefs\"; Server: PROGRAM EXPORTS AskDefs = BEGIN S: PUBLIC SIGNAL [x: INTEGER] RETURNS [INTEGER] = CODE; "
    ++ codes "Ask: PUBLIC PROCEDURE [x: INTEGER] RETURNS [INTEGER] = BEGIN k: INTEGER _ 9; r: INTEGER; r _ SIGNAL S[x]; RETURN[r * 10 + k]; END; END.")
    ∷ []

abbrev main : List Row
main =
    fine (codes "DIRECTORY AskDefs: FROM \"AskDefs\", IODefs: FROM \"IODefs\"; "
    ++ codes "Main: PROGRAM IMPORTS AskDefs, IODefs = BEGIN IODefs.WriteDecimal[AskDefs.Ask[4 ! AskDefs.S => RESUME[x + 1]]]; END.")
    ∷ []

a_server : mistakes ask 0 server ≡ []
unfolding everything
a_server = refl

a_client : mistakes (ask ++ io) 0 main ≡ []
unfolding everything
a_client = refl

-- the texts of a chain of modules
abbrev chain : List PlainInterface
chain =
    interface 170 (codes "StepDefs: DEFINITIONS = BEGIN Step: PROCEDURE [n: INTEGER] RETURNS [INTEGER]; END.")
    ++ (interface 171 (codes "SigDefs: DEFINITIONS = BEGIN Odd: SIGNAL [n: INTEGER] RETURNS [INTEGER]; END.") ++ io)

abbrev links : List Row
links =
    fine (codes "DIRECTORY StepDefs: FROM \"StepDefs\"; Link: PROGRAM IMPORTS StepDefs EXPORTS StepDefs = BEGIN Step: PUBLIC PROCEDURE [n: INTEGER] "
    ++ codes "RETURNS [INTEGER] = BEGIN RETURN[StepDefs.Step[n + 1]]; END; END.")
    ∷ fine (codes "DIRECTORY StepDefs: FROM \"StepDefs\", SigDefs: FROM \"SigDefs\"; "
    ++ codes "Last: PROGRAM EXPORTS StepDefs, SigDefs = BEGIN Odd: PUBLIC SIGNAL [n: INTEGER] RETURNS [INTEGER] = CODE; "
    ++ codes "Step: PUBLIC PROCEDURE [n: INTEGER] RETURNS [INTEGER] = BEGIN IF n MOD 2 = 1 THEN RETURN[SIGNAL Odd[n]]; RETURN[n]; END; END.")
    ∷ fine (codes "DIRECTORY StepDefs: FROM \"StepDefs\", SigDefs: FROM \"SigDefs\", IODefs: FROM \"IODefs\"; "
    ++ codes "Main: PROGRAM IMPORTS StepDefs, SigDefs, IODefs = BEGIN IODefs.WriteDecimal[StepDefs.Step[0 ! SigDefs.Odd => RESUME[n + n]]]; "
    ++ codes "IODefs.WriteChar[12C]; END.")
    ∷ []

a_chain : mistakes chain 0 links ≡ []
unfolding everything
a_chain = refl

-- A counter behind an interface, and one that goes over it.
abbrev counting : List PlainInterface
counting = interface 12 (codes "CounterDefs: DEFINITIONS = BEGIN Next: PROCEDURE RETURNS [INTEGER]; Full: ERROR; END.")

abbrev going : List PlainInterface
going = interface 13 (codes "OtherDefs: DEFINITIONS = BEGIN Go: PROCEDURE; END.")

abbrev counter : List Row
counter =
    fine (codes "DIRECTORY CounterDefs: FROM \"CounterDefs\"; Counter: PROGRAM EXPORTS CounterDefs = BEGIN n: INTEGER _ 0; Full: PUBLIC ERROR = CODE; "
    ++ codes "Next: PUBLIC PROCEDURE RETURNS [INTEGER] = BEGIN n _ n + 1; IF n > 2 THEN ERROR Full; RETURN[n]; END; END.")
    ∷ []

abbrev other : List Row
other =
    fine (codes "DIRECTORY CounterDefs: FROM \"CounterDefs\", OtherDefs: FROM \"OtherDefs\", IODefs: FROM \"IODefs\"; "
    ++ codes "Other: PROGRAM IMPORTS CounterDefs, IODefs EXPORTS OtherDefs = BEGIN OPEN IODefs; Go: PUBLIC PROCEDURE = BEGIN "
    ++ codes "THROUGH [1..3] DO WriteDecimal[CounterDefs.Next[]] ENDLOOP; END; END.")
    ∷ fine (codes "DIRECTORY CounterDefs: FROM \"CounterDefs\", OtherDefs: FROM \"OtherDefs\", IODefs: FROM \"IODefs\"; "
    ++ codes "Main: PROGRAM IMPORTS CounterDefs, OtherDefs, IODefs = BEGIN OPEN IODefs; WriteDecimal[CounterDefs.Next[]]; "
    ++ codes "OtherDefs.Go[! CounterDefs.Full => BEGIN WriteChar['x]; CONTINUE END]; END.")
    ∷ fine (codes "DIRECTORY CounterDefs: FROM \"CounterDefs\", OtherDefs: FROM \"OtherDefs\", IODefs: FROM \"IODefs\"; "
    ++ codes "Main: PROGRAM IMPORTS CounterDefs, OtherDefs, IODefs = BEGIN OPEN IODefs; WriteDecimal[CounterDefs.Next[]]; OtherDefs.Go[]; END.")
    ∷ []

a_counter : mistakes counting 0 counter ≡ []
unfolding everything
a_counter = refl

over_a_counter : mistakes (counting ++ (going ++ io)) 0 other ≡ []
unfolding everything
over_a_counter = refl

-- two that export one interface to a third
abbrev allocating : List PlainInterface
allocating = interface 10 (codes "AllocDefs: DEFINITIONS = BEGIN Get: PROCEDURE RETURNS [INTEGER]; END.")

abbrev allocators : List Row
allocators =
    fine (codes "DIRECTORY AllocDefs: FROM \"AllocDefs\"; One: PROGRAM EXPORTS AllocDefs = BEGIN "
    ++ codes "Get: PUBLIC PROCEDURE RETURNS [INTEGER] = BEGIN RETURN[1]; END; END.")
    ∷ fine (codes "DIRECTORY AllocDefs: FROM \"AllocDefs\"; Main: PROGRAM IMPORTS AllocDefs = BEGIN n: INTEGER _ AllocDefs.Get[]; END.")
    -- a module may import what it exports
    ∷ fine (codes "DIRECTORY AllocDefs: FROM \"AllocDefs\"; Two: PROGRAM IMPORTS AllocDefs EXPORTS AllocDefs = BEGIN "
    ++ codes "Get: PUBLIC PROCEDURE RETURNS [INTEGER] = BEGIN RETURN[AllocDefs.Get[]]; END; END.")
    ∷ []

two_allocators : mistakes allocating 0 allocators ≡ []
unfolding everything
two_allocators = refl

-- a store over a log
abbrev logging : List PlainInterface
logging = interface 10 (codes "LogDefs: DEFINITIONS = BEGIN Put: PROCEDURE [c: CHARACTER]; END.")

abbrev storing : List PlainInterface
storing = interface 11 (codes "StoreDefs: DEFINITIONS = BEGIN Save: PROCEDURE [c: CHARACTER]; END.")

abbrev logger : List Row
logger =
    fine (codes "DIRECTORY LogDefs: FROM \"LogDefs\", IODefs: FROM \"IODefs\"; Logger: PROGRAM IMPORTS IODefs EXPORTS LogDefs = BEGIN "
    ++ codes "Put: PUBLIC PROCEDURE [c: CHARACTER] = BEGIN IODefs.WriteChar[c]; END; END.")
    ∷ []

abbrev store : List Row
store =
    fine (codes "DIRECTORY LogDefs: FROM \"LogDefs\", StoreDefs: FROM \"StoreDefs\"; Store: PROGRAM IMPORTS LogDefs EXPORTS StoreDefs = BEGIN "
    ++ codes "Save: PUBLIC PROCEDURE [c: CHARACTER] = BEGIN LogDefs.Put[c]; END; END.")
    ∷ fine (codes "DIRECTORY LogDefs: FROM \"LogDefs\", StoreDefs: FROM \"StoreDefs\"; Main: PROGRAM IMPORTS StoreDefs = BEGIN StoreDefs.Save['q]; END.")
    ∷ []

a_logger : mistakes (logging ++ io) 0 logger ≡ []
unfolding everything
a_logger = refl

a_store : mistakes (logging ++ storing) 0 store ≡ []
unfolding everything
a_store = refl

-- what two interfaces hold
two : interface 11 (codes "Two: DEFINITIONS = BEGIN Size: CARDINAL = 3; Full: ERROR; END.") ≡ record {
  name = codes "Two";
  stamp = 11;
  items = record { kind = item.Error; name = codes "Full"; takes = []; gives = [] } ∷ [];
  constants = record { name = codes "Size"; kind = v.Cardinal; value = 3 } ∷ [];
  types = [];
} ∷ []
unfolding everything
two = refl

one : interface 10 (codes "One: DEFINITIONS = BEGIN Get: PROCEDURE RETURNS [INTEGER]; END.") ≡ record {
  name = codes "One";
  stamp = 10;
  items = record { kind = item.Procedure; name = codes "Get"; takes = []; gives = record { name = None; kind = v.Integer } ∷ [] } ∷ [];
  constants = [];
  types = [];
} ∷ []
unfolding everything
one = refl

abbrev refused : List Row
refused =
    bad TwiceDeclared (codes "Bad: PROGRAM = BEGIN x, ^x: INTEGER; END.")
    ∷ bad BadLabel (codes "Bad: PROGRAM = BEGIN ^EXIT; END.")
    ∷ bad UnknownName (codes "Bad: PROGRAM = BEGIN ^x _ 1 END.")
    ∷ bad NotResumable (codes "Bad: PROGRAM = BEGIN E: ERROR = CODE; ERROR E[! E => ^RESUME] END.")
    ∷ bad StampMissing (codes "Two: ^DEFINITIONS = BEGIN Size: CARDINAL = 3; Full: ERROR; END.")
    ∷ []

abbrev refused_under_a_stamp : List Row
refused_under_a_stamp = bad StampUnwanted (codes "Nothing: ^PROGRAM = BEGIN END.") ∷ []

refused_texts : mistakes [] 0 refused ≡ []
unfolding everything
refused_texts = refl

a_stamp_unwanted : mistakes_under 11 [] 0 refused_under_a_stamp ≡ []
unfolding everything
a_stamp_unwanted = refl

abbrev more_calls : List Row
more_calls =
    runs (codes "E: ERROR = CODE; P: PROCEDURE = BEGIN WriteChar['p]; ERROR E; END; P[]; WriteChar['q];")
    ∷ runs (codes "F: PROCEDURE [n: INTEGER] RETURNS [INTEGER] = BEGIN IF n < 2 THEN RETURN[n]; RETURN[F[n - 1] + F[n - 2]]; END; WriteDecimal[F[10]];")
    ∷ []

calls_in_calls : mistakes io 0 more_calls ≡ []
unfolding everything
calls_in_calls = refl
