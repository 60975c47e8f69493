pub mod PhraseLoops
