pub mod Folded
pub mod FoldedStatements
