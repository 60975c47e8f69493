-- The bytes of the pieces of a line.
use Rattle.std.specs.Prelude.{ℕ, List, [], ◌∷◌, ◌++◌, flat_map, decimal}
use Rattle.line_pieces.specs.Texts.{path_text, stamp_text, with_dot, with_blank}
use Rattle.line_pieces.specs.declared.pieces.Piece.{Piece}
use Rattle.line_pieces.specs.declared.pieces.Piece.TheVariants.{Text, Bytes, Number, Digits, Names, Dotted, Spaced}

abbrev pub bytes_of : Piece → List ℕ
bytes_of (Text text) = text.now
bytes_of (Bytes bytes) = bytes.now
bytes_of (Number n) = decimal n
bytes_of (Digits stamp) = stamp_text stamp
bytes_of (Names path) = path_text path.now
bytes_of (Dotted path) = flat_map with_dot path.now
bytes_of (Spaced names) = flat_map with_blank names.now

abbrev pub joined : List Piece → List ℕ
joined [] = []
joined (p ∷ ps) = bytes_of p ++ joined ps
