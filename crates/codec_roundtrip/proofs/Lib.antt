pub mod RoundTripLaws
pub mod OneOutcome
