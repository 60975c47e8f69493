mod Coming
mod DeclaredNames
mod Distinct
mod FineConstants
mod FineDefinitions
mod FineExpressions
mod FineFields
mod FineInterfaces
mod FineTypeRules
mod FineTypes
mod FineValues
mod GivenFaces
mod HeadCounts
mod HeadForms
pub mod HeadNames
pub mod Keeping
pub mod Kept
pub mod KeptModule
pub mod KeptNames
pub mod KeptStatements
pub mod KeptValues
mod LawProofs
mod LimitsKept
pub mod OrderKept
mod OriginCounts
mod RoundTrip
mod Outcomes
pub mod SoundAround
pub mod SoundBlocks
pub mod SoundBodies
pub mod SoundCalls
pub mod SoundChecked
pub mod SoundConstants
pub mod SoundCounted
pub mod SoundDeclarations
pub mod SoundDirectory
pub mod SoundEnded
pub mod SoundExports
pub mod SoundExpressions
pub mod SoundExtractors
pub mod SoundHeads
pub mod SoundImports
pub mod SoundLaw
pub mod SoundLists
pub mod SoundLoops
pub mod SoundModules
pub mod SoundNames
pub mod SoundOperators
pub mod SoundProcedures
pub mod SoundReached
pub mod SoundScopes
pub mod SoundStart
pub mod SoundStatements
pub mod SoundSteps
pub mod SoundTexts
pub mod SoundTrees
pub mod SoundTypeRules
pub mod SoundValues
pub mod SoundWhole
pub mod SoundnessStatements
pub mod SpelledLaw
mod SpelledOrder
pub mod SpelledShapes
mod SpelledTypes
mod TypeLaws
