-- a move keeps a position proper
pub mod MaskBits
pub mod PairCount
pub mod Foundation
pub mod Shows
pub mod InOrder
pub mod Deck
pub mod Turned
pub mod Untouched
pub mod PairRule
pub mod TurnedFields
pub mod CardTables
pub mod Effects
pub mod Ranges
pub mod MovesProper
-- a fresh position is proper
pub mod FreshProper
-- arrays keep their lengths
pub mod Shapes
-- what an accepted call has passed
pub mod Refusing
pub mod Allowed
-- going back, and refusal 15's test
pub mod Tidy
pub mod TurnedBack
pub mod UndoTest
pub mod EntryFits
-- what is a matter of the deal; what a player may know
pub mod DealKept
pub mod Veil
