mod Numbers
mod Outcomes
mod Reports
mod Rows
mod Served
