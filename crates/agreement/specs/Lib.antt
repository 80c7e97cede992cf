-- The agreement of the stepped pool with the plain pool: what is compared, the events and premises, the relation, the
-- claims.
pub mod Contents
pub mod Relation
pub mod Tied
pub mod Events
pub mod Reached
pub mod Asked
pub mod LostExchanges
pub mod AtWhatAsked
pub mod Handed
pub mod Observe
pub mod Agreement
pub mod Ends
pub mod InRange
