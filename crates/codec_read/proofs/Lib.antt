pub mod HeldLaws
pub mod ItemLaws
pub mod Loop
pub mod RowLaws
pub mod ListLaws
pub mod BodyLaws
