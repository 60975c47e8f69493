-- The numbers of the limits, which definitions and code name from one place.
use Rattle.std.proofs.Common.{◌≡◌, refl}
use Rattle.mesa_base.specs.declared.limits.TheConstants.{TEXT_BYTES, IDENTIFIER_BYTES, STRING_BYTES, GREATEST_NUMBER, GREATEST_CHARACTER, NESTING, TYPE_WORDS, TYPE_DEPTH, ENUMERATION_ELEMENTS, GLOBAL_WORDS, DISTINCT_STRINGS, LOCAL_WORDS, OPERAND_WORDS, SIGNAL_WORDS, INSTANCES, CONFIGURATION_DEPTH, ACTIVATIONS, TREE_NODES, FILE_BYTES}

pub text : TEXT_BYTES ≡ 1048576
text = refl

pub identifier : IDENTIFIER_BYTES ≡ 255
identifier = refl

pub string : STRING_BYTES ≡ 32767
string = refl

pub number : GREATEST_NUMBER ≡ 4294967295
number = refl

pub character : GREATEST_CHARACTER ≡ 255
character = refl

pub nesting : NESTING ≡ 200
nesting = refl

pub type_words : TYPE_WORDS ≡ 16384
type_words = refl

pub type_depth : TYPE_DEPTH ≡ 64
type_depth = refl

pub elements : ENUMERATION_ELEMENTS ≡ 65536
elements = refl

pub globals : GLOBAL_WORDS ≡ 16384
globals = refl

pub strings : DISTINCT_STRINGS ≡ 65535
strings = refl

pub locals : LOCAL_WORDS ≡ 1024
locals = refl

pub operands : OPERAND_WORDS ≡ 16384
operands = refl

pub signals : SIGNAL_WORDS ≡ 2048
signals = refl

pub instances : INSTANCES ≡ 1024
instances = refl

pub configurations : CONFIGURATION_DEPTH ≡ 32
configurations = refl

pub activations : ACTIVATIONS ≡ 8192
activations = refl

pub nodes : TREE_NODES ≡ 4194304
nodes = refl

pub file : FILE_BYTES ≡ 536870912
file = refl
