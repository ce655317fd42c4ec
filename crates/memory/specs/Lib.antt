pub mod Portions
pub mod Reports
